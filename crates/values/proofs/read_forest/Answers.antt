-- `values::read_forest` meets its contract: reading what is pending is reading the whole (`Going`); the measure counts each record twice, and the stretches that are open. Assumes nothing.
use mathlib.Core.Path.{refl, ◌∙◌}
use native.Mathlib.Omega.{arith}
use lib.ListN.{set, length-set}
use Rattle.std.proofs.lemmas.Result.{err_from_is_err_and}
use Rattle.values.proofs.Going.{going_starts, going_down, going_wrong, going_ends, going_on, not_all, room_above, inside_low}
use Rattle.values.proofs.read_forest.Goals as goal

pub loop-depth-init : goal.loop-depth-init
loop-depth-init c =
    (going_starts _ _ _ c.args.stack.now c.requires.deep c.requires.inside, refl, refl)

pub loop-depth-preserved-then-left-eq0 : goal.loop-depth-preserved-then-left-eq0
loop-depth-preserved-then-left-eq0 c =
    (going_down _ _ _ c.loop-depth.invariant.0 c.loop-depth-test.true c.if-left-eq0.true, c.loop-depth.invariant.1, c.loop-depth.invariant.2)

pub returns-in_err-x : goal.returns-in_err-x
returns-in_err-x c =
    let p = err_from_is_err_and c.from_residual.result c.from_residual.ensures.1 in
    rw (p.1, p.2) (going_wrong _ _ _ c.loop-depth.invariant.0 c.loop-depth-test.true _ refl c.if-left-eq0.false c.in_err-x.ensures)

pub overflow_sub-stack-else-left-eq0 : goal.overflow_sub-stack-else-left-eq0
overflow_sub-stack-else-left-eq0 c =
    inside_low _ _ _ c.loop-depth.invariant.0 c.loop-depth-test.true _ refl c.if-left-eq0.false c.in_ok-x.ensures

pub bounds-stack-depth-else-left-eq0-2 : goal.bounds-stack-depth-else-left-eq0-2
bounds-stack-depth-else-left-eq0-2 c =
    room_above _ _ _ c.loop-depth.invariant.0 c.loop-depth-test.true _ refl c.if-left-eq0.false (omega (arith, c.ranges)) _

pub loop-depth-smaller : goal.loop-depth-smaller
loop-depth-smaller c =
    omega (arith, not_all _ _ _ c.loop-depth.invariant.0 c.loop-depth-test.true _ refl c.if-left-eq0.false)

pub loop-depth-preserved : goal.loop-depth-preserved
loop-depth-preserved c =
    (going_on _ _ _ c.loop-depth.invariant.0 c.loop-depth-test.true _ refl c.if-left-eq0.false c.in_ok-x.ensures (omega (arith, c.ranges)) c.loop-depth.invariant.1 c.keep.ensures, c.keep.auto.work ∙ c.loop-depth.invariant.1, length-set (set c.loop-depth.stack _ _) _ _ ∙ length-set c.loop-depth.stack _ _ ∙ c.loop-depth.invariant.2)

pub returns : goal.returns
returns c = going_ends _ _ _ c.loop-depth.invariant.0 c.loop-depth-test.false
