-- `running::eval` meets its contract: the nodes that are begun, and the spot that is to be done or was done last, say what is left (`Going`).
-- Assumes nothing.
use mathlib.Core.Path.{refl}
use Rattle.std.proofs.lemmas.Result.{err_from_is_err_and}
use Rattle.running.proofs.Going.{going_start, at_node, at_answer, down_after, down_inside, down_ready, down_goes, down_less, down_stops, up_after, up_inside, up_back, up_goes, up_less, end_leaves}
use native.Mathlib.Omega.{arith}
use Rattle.running.proofs.eval.Goals as goal

pub loop-next-init : goal.loop-next-init
loop-next-init c =
    going_start _ c.new-stack.ensures c.requires

pub overflow_sub-from : goal.overflow_sub-from
overflow_sub-from c =
    omega (arith, down_after _ (at_node _ c.loop-next.invariant c.in-Down.is))

pub slice_bounds-down-count : goal.slice_bounds-down-count
slice_bounds-down-count c =
    down_inside _ (at_node _ c.loop-next.invariant c.in-Down.is) refl

pub slice_bounds-down-start : goal.slice_bounds-down-start
slice_bounds-down-start c =
    down_inside _ (at_node _ c.loop-next.invariant c.in-Down.is) refl

pub down-requires-clause-ready : goal.down-requires-clause-ready
down-requires-clause-ready c =
    down_ready _ (at_node _ c.loop-next.invariant c.in-Down.is) refl

pub returns-in_err-next-in-Down : goal.returns-in_err-next-in-Down
returns-in_err-next-in-Down c =
    let p = err_from_is_err_and c.from_residual.result c.from_residual.ensures.1 in
    rw (p.1, p.2) (down_stops _ (at_node _ c.loop-next.invariant c.in-Down.is) refl _ c.in_err-next-in-Down.ensures)

pub loop-next-smaller-in-Down : goal.loop-next-smaller-in-Down
loop-next-smaller-in-Down c =
    down_less _ (at_node _ c.loop-next.invariant c.in-Down.is) refl c.in_ok-next-in-Down.ensures c.in-Down.is

pub loop-next-preserved-in-Down : goal.loop-next-preserved-in-Down
loop-next-preserved-in-Down c =
    down_goes _ (at_node _ c.loop-next.invariant c.in-Down.is) refl c.in_ok-next-in-Down.ensures c.loop-next.invariant c.down.auto.rest

pub returns-in_default : goal.returns-in_default
returns-in_default c =
    end_leaves _ (at_answer _ c.loop-next.invariant c.in-Up.is) c.in_default.ensures

pub overflow_sub-from-in-Up : goal.overflow_sub-from-in-Up
overflow_sub-from-in-Up c =
    omega (arith, up_after _ (at_answer _ c.loop-next.invariant c.in-Up.is) c.in-Some.ensures c.from.ensures)

pub slice_bounds-up-count : goal.slice_bounds-up-count
slice_bounds-up-count c =
    up_inside _ (at_answer _ c.loop-next.invariant c.in-Up.is) c.in-Some.ensures c.from.ensures refl

pub slice_bounds-up-start : goal.slice_bounds-up-start
slice_bounds-up-start c =
    up_inside _ (at_answer _ c.loop-next.invariant c.in-Up.is) c.in-Some.ensures c.from.ensures refl

pub up-next-requires-clause-back : goal.up-next-requires-clause-back
up-next-requires-clause-back c =
    up_back _ (at_answer _ c.loop-next.invariant c.in-Up.is) c.in-Some.ensures c.from.ensures refl

pub loop-next-smaller : goal.loop-next-smaller
loop-next-smaller c =
    up_less _ (at_answer _ c.loop-next.invariant c.in-Up.is) c.in-Some.ensures c.from.ensures refl c.up-next.ensures c.in-Up.is

pub loop-next-preserved : goal.loop-next-preserved
loop-next-preserved c =
    up_goes _ (at_answer _ c.loop-next.invariant c.in-Up.is) c.in-Some.ensures c.from.ensures refl c.up-next.ensures c.loop-next.invariant c.up-next.auto.held c.up-next.auto.rest
