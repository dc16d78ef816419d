-- `answers::types_size` meets its contract: the bytes so far, with those to come, are the whole (`Sizing`).
-- Assumes nothing.
use Rattle.answers.proofs.Turns.{Sizing}
use Rattle.answers.proofs.types_size.Given as goal

abbrev pub invariant-loop-i : goal.invariant-loop-i
invariant-loop-i l = Sizing l.types l.n l.i
