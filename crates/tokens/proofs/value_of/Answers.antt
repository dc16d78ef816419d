-- `tokens::value_of` meets its contract.
-- Assumes nothing.
use mathlib.Core.Path.{refl}
use Rattle.tokens.proofs.Decimals.{valued_next, valued_all}
use native.Mathlib.Omega.{arith}
use mathlib.Core.Path.{ap, ◌∙◌}
use Prim.Native.Nat.{ℕ, ◌+◌, ◌*◌, min}
use Rattle.tokens.proofs.value_of.Goals as goal

pub loop-digit-init : goal.loop-digit-init
loop-digit-init c =
    record { inside = omega arith; small = omega arith; is = refl }

pub loop-digit-preserved : goal.loop-digit-preserved
loop-digit-preserved c =
    valued_next c.loop-digit.invariant c.loop-digit-test.true (c.min-n.ensures ∙ ap (λ (x : ℕ). min (10 * c.loop-digit.n + x) 65536) c.from.ensures)

pub returns : goal.returns
returns c =
    valued_all c.loop-digit.invariant c.loop-digit-test.false
