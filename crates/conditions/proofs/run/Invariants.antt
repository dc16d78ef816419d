-- What is left to do with the act that the loop has come to is the whole (`Going`).
-- Assumes nothing.
use lib.ListN.{length}
use Rattle.std.specs.Prelude as Std
use Rattle.conditions.proofs.Going.{Going, left}
use Rattle.conditions.proofs.run.Given as goal

abbrev pub invariant-loop-act : goal.invariant-loop-act
invariant-loop-act l = Going l.s l.deep l.initial.code (length l.initial.stack) (Std.Ok l.initial.act) l.code l.stack l.top (Std.Ok l.act)

abbrev pub decreases-loop-act : goal.decreases-loop-act
decreases-loop-act l = left l.s l.top l.act
