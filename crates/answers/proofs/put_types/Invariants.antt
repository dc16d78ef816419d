-- `answers::put_types` meets its contract: the records so far stand in the buffer (`Typing`).
-- Assumes nothing.
use Rattle.answers.proofs.Turns.{Typing}
use Rattle.answers.proofs.put_types.Given as goal

abbrev pub invariant-loop-e : goal.invariant-loop-e
invariant-loop-e l = Typing l.types l.initial.answer l.answer l.at l.e
