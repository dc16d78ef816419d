-- `classes::climb` meets its contract. The invariant is where the climb has come to.
-- Assumes nothing.
use Rattle.classes.proofs.Climbing.{Climbing, left_over}
use Rattle.classes.proofs.climb.Given as goal

abbrev pub invariant-loop-classes : goal.invariant-loop-classes
invariant-loop-classes l = Climbing l.defs l.types l.initial.classes l.initial.back l.classes l.back l.e l.at

abbrev pub decreases-loop-classes : goal.decreases-loop-classes
decreases-loop-classes l = left_over l.defs l.types l.classes l.at
