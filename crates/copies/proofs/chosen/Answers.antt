-- `copies::chosen` meets its contract.
-- Assumes nothing.
use Rattle.std.proofs.lemmas.Result.{err_from_is_err_and}
use Rattle.spans.proofs.Parts.{part_length}
use Rattle.spans.specs.Shows.{part}
use Rattle.copies.proofs.Firsts.{whole_part, whole_stretch}
use Rattle.copies.proofs.Choosing.{choosing_start, choosing_end, turn_inside, turn_words, turn_full, turn_next, stride_some, stride_inside}
use mathlib.Core.Path.{ap}
use Prim.Native.Nat.{ℕ, ◌+◌}
use native.Mathlib.Omega.{arith}
use Rattle.copies.proofs.chosen.Goals as goal

pub loop-j-init : goal.loop-j-init
loop-j-init c =
    choosing_start (whole_stretch c.requires.trees) c.requires.filled.0 c.requires.filled.1

pub slice_bounds-append-end : goal.slice_bounds-append-end
slice_bounds-append-end c =
    omega (arith, turn_inside c.loop-j.invariant c.loop-j-test.true (ap (λ (x : ℕ). x + 1) c.from-size.ensures), c.loop-j.invariant.inside)

pub append-requires-clause-one : goal.append-requires-clause-one
unfolding part
append-requires-clause-one c =
    record {
      long = omega (arith, part_length c.args.trees.now c.loop-j.j (c.loop-j.j + (c.from-size.result + 1)) (omega (arith, turn_inside c.loop-j.invariant c.loop-j-test.true (ap (λ (x : ℕ). x + 1) c.from-size.ensures), c.loop-j.invariant.inside)));
      forest = c.loop-j.invariant.coming;
      is = turn_words c.loop-j.invariant c.loop-j-test.true (ap (λ (x : ℕ). x + 1) c.from-size.ensures);
    }

pub returns-in_err-top : goal.returns-in_err-top
unfolding part
returns-in_err-top c =
    let p = err_from_is_err_and c.from_residual.result c.from_residual.ensures.1 in
    rw (p.1, p.2) (λ f g e. turn_full c.loop-j.invariant c.loop-j-test.true (ap (λ (x : ℕ). x + 1) c.from-size.ensures) _ c.in_err-top.ensures f g (whole_part _ f e))

pub overflow_add-j-in-loop-j-2 : goal.overflow_add-j-in-loop-j-2
overflow_add-j-in-loop-j-2 c =
    omega (arith, c.stride-j.ensures, stride_inside c.loop-j.invariant c.loop-j-test.true (ap (λ (x : ℕ). x + 1) c.from-size.ensures) c.args.deep, c.loop-j.invariant.inside)

pub loop-j-smaller : goal.loop-j-smaller
loop-j-smaller c =
    omega (arith, c.stride-j.ensures, stride_some c.loop-j.invariant c.loop-j-test.true (ap (λ (x : ℕ). x + 1) c.from-size.ensures) c.args.deep, stride_inside c.loop-j.invariant c.loop-j-test.true (ap (λ (x : ℕ). x + 1) c.from-size.ensures) c.args.deep)

pub loop-j-preserved : goal.loop-j-preserved
unfolding part
loop-j-preserved c =
    turn_next c.loop-j.invariant c.loop-j-test.true (ap (λ (x : ℕ). x + 1) c.from-size.ensures) c.in_ok-top.ensures c.stride-j.ensures

pub returns : goal.returns
returns c =
    λ f g e. choosing_end c.loop-j.invariant c.loop-j-test.false c.args.n f g (whole_part _ f e)
