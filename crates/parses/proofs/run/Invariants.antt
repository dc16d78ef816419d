-- The measure is what is left of the text, and the tasks.
-- Assumes nothing.
use Prim.Native.Nat.{◌+◌, ◌-◌, ◌*◌}
use lib.ListN.{length}
use Rattle.parses.proofs.Looping.{Looping}
use Rattle.parses.proofs.run.Given as goal

abbrev pub invariant-loop-tasks : goal.invariant-loop-tasks
invariant-loop-tasks l = Looping l.s l.initial.code l.initial.stack l.here l.tasks l.code l.stack

abbrev pub decreases-loop-tasks : goal.decreases-loop-tasks
decreases-loop-tasks l = 3 * (length l.s - l.here.next) + l.tasks
