-- `ran::spread` meets its contract: the variables are bound from the last to the first. Assumes nothing.
use Prim.Native.Nat.{◌≤◌}
use lib.ListN.{length}
use Rattle.ran.proofs.Spreading.{From}
use Rattle.ran.proofs.spread.Given as goal

abbrev pub invariant-loop-i : goal.invariant-loop-i
invariant-loop-i l = (l.i ≤ length l.vars) × From l.vars l.ends l.i l.scope
