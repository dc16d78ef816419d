-- `copies::chosen` meets its contract.
-- Assumes nothing.
use Rattle.copies.proofs.Choosing.{Choosing}
use Prim.Native.Nat.{◌-◌}
use Rattle.copies.proofs.chosen.Given as goal

abbrev pub invariant-loop-j : goal.invariant-loop-j
invariant-loop-j l = Choosing l.trees 0 l.end l.test l.deep l.initial.rest l.m l.rest l.j l.top

abbrev pub decreases-loop-j : goal.decreases-loop-j
decreases-loop-j l = l.end - l.j
