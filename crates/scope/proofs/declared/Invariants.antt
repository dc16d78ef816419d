-- `scope::declared` meets its contract: the variables from i on are bound.
-- Assumes nothing.
use Prim.Native.Nat.{◌≤◌}
use mathlib.Core.Path.{◌≡◌}
use lib.ListN.{length, drop}
use Rattle.scope.specs.Shows.{Shows}
use Rattle.scope.proofs.declared.Given as goal

abbrev pub invariant-loop-i : goal.invariant-loop-i
invariant-loop-i l = (l.i ≤ length l.vars) × (length l.scope.slots ≡ 64) × Shows l.scope (drop l.i l.vars)
