-- `copies::inner` meets its contract.
-- Assumes nothing.
use Rattle.std.proofs.lemmas.Result.{err_from_is_err_and}
use Rattle.spans.specs.Shows.{part}
use Rattle.copies.proofs.Firsts.{whole_part, whole_stretch}
use Rattle.copies.proofs.Gathering.{gathering_start, gathering_end, inner_ends, inner_stretch, inner_full, inner_next}
use mathlib.Core.Path.{ap}
use Prim.Native.Nat.{ℕ, ◌+◌}
use native.Mathlib.Omega.{arith}
use Rattle.copies.proofs.inner.Goals as goal

pub loop-j-init : goal.loop-j-init
loop-j-init c =
    gathering_start (whole_stretch c.requires.trees) c.requires.blank

pub slice_bounds-chosen-end : goal.slice_bounds-chosen-end
slice_bounds-chosen-end c =
    omega (arith, inner_ends c.loop-j.invariant c.loop-j-test.true (ap (λ (x : ℕ). c.loop-j.j + 1 + x) c.from.ensures), c.loop-j.invariant.inside)

pub chosen-requires-clause-trees : goal.chosen-requires-clause-trees
unfolding part
chosen-requires-clause-trees c =
    let s = inner_stretch c.loop-j.invariant c.loop-j-test.true (ap (λ (x : ℕ). c.loop-j.j + 1 + x) c.from.ensures) in record { forest = s.forest; is = s.is }

pub returns-in_err-top : goal.returns-in_err-top
unfolding part
returns-in_err-top c =
    let p = err_from_is_err_and c.from_residual.result c.from_residual.ensures.1 in
    rw (p.1, p.2) (λ f e. inner_full c.loop-j.invariant c.loop-j-test.true (ap (λ (x : ℕ). c.loop-j.j + 1 + x) c.from.ensures) _ c.in_err-top.ensures f (whole_part _ f e))

pub loop-j-preserved : goal.loop-j-preserved
unfolding part
loop-j-preserved c =
    inner_next c.loop-j.invariant c.loop-j-test.true (ap (λ (x : ℕ). c.loop-j.j + 1 + x) c.from.ensures) c.in_ok-top.ensures

pub returns : goal.returns
returns c =
    λ f e. gathering_end c.loop-j.invariant c.loop-j-test.false c.args.n f (whole_part _ f e)
