-- `copies::inner` meets its contract.
-- Assumes nothing.
use Rattle.copies.proofs.Gathering.{Gathering}
use lib.ListN.{length}
use Prim.Native.Nat.{◌-◌}
use Rattle.copies.proofs.inner.Given as goal

abbrev pub invariant-loop-j : goal.invariant-loop-j
invariant-loop-j l = Gathering l.trees 0 l.end l.test (length l.initial.rest) l.rest l.j l.top

abbrev pub decreases-loop-j : goal.decreases-loop-j
decreases-loop-j l = l.end - l.j
