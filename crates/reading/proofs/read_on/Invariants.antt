-- `reading::read_on` meets its contract: reading on from here, onto the tables that the lists hold, is reading the whole; what is left of the file falls.
-- Assumes nothing.
use Prim.Native.Nat.{◌-◌}
use lib.ListN.{length}
use Rattle.reading.specs.Lists.{lists}
use Rattle.reading.proofs.Going.{Going}
use Rattle.reading.proofs.read_on.Given as goal

abbrev pub invariant-loop-here : goal.invariant-loop-here
invariant-loop-here l = Going l.file l.s l.room l.limit (lists l.initial.types l.initial.code l.initial.defs l.initial.vars) (lists l.types l.code l.defs l.vars) l.here

abbrev pub decreases-loop-here : goal.decreases-loop-here
decreases-loop-here l = length l.s - l.here.at
