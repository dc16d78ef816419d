-- `reach::reach` meets its contract: what is marked is reached, and what stands in it is marked or still to be visited (`Visiting`). Assumes nothing.
use Rattle.reach.proofs.Reaching.{Anyhow, left_over}
use Rattle.reach.proofs.reach.Given as goal

abbrev pub invariant-loop-left : goal.invariant-loop-left
invariant-loop-left l = Anyhow l.types l.defs l.count l.e l.initial.marks l.marks l.left

abbrev pub decreases-loop-left : goal.decreases-loop-left
decreases-loop-left l = left_over l.count l.marks l.left
