-- The place is in the room, and what is read stands before it; the measure is what is left of the room.
use Rattle.std.proofs.Common.{◌-◌, ◌≤◌, length, take}
use Rattle.std.specs.Io.KnownBytes.{Consumes}
use Rattle.intake.proofs.fill.Given as goal

abbrev pub invariant-loop-at : goal.invariant-loop-at
invariant-loop-at g l = (l.at ≤ length l.room) × Consumes (g.R.Read.remaining l.initial.input) (g.R.Read.remaining l.input) (take l.at l.room)

abbrev pub decreases-loop-at : goal.decreases-loop-at
decreases-loop-at g l = length l.room - l.at
