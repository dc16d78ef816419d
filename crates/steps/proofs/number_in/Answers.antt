-- `steps::number_in` meets its contract.
-- Assumes nothing.
use mathlib.Core.Path.{◌≡◌}
use mathlib.Core.Bool.{false, ◌&&◌}
use Prim.Native.Nat.{◌≤◌}
use lib.Dec.{leb}
use native.Mathlib.Omega.{arith}
use Rattle.std.proofs.lemmas.Bool.Decides.{nat_tests}
use Rattle.std.proofs.lemmas.Grind.{common_steps}
use Rattle.steps.proofs.Expecting.{number_not, number_out, number_is}
use Rattle.tokens.proofs.Numbers.{other_number}
use Rattle.steps.proofs.number_in.Goals as goal

pub returns-in_default : goal.returns-in_default
returns-in_default c = number_not _ _ c.token_at-t.ensures _ _ (other_number _ c.in_default.not-Number)

pub returns-then-not-fits : goal.returns-then-not-fits
returns-then-not-fits c =
    let e : (leb c.args.low c.in-Number.n && leb c.in-Number.n c.args.high) ≡ false = grind (arith, common_steps, nat_tests) in
    number_out _ _ c.token_at-t.ensures _ _ c.requires.order c.requires.small c.in-Number.is e

pub returns : goal.returns
returns c =
    let l : c.args.low ≤ c.in-Number.n = grind (arith, common_steps, nat_tests) in
    let h : c.in-Number.n ≤ c.args.high = grind (arith, common_steps, nat_tests) in
    number_is _ _ c.token_at-t.ensures _ _ c.requires.order c.requires.small c.in-Number.is l h c.requires.inside
