-- `answers::put_defs` meets its contract: the records so far stand behind what the buffer held (`Defining`).
-- Assumes nothing.
use Rattle.answers.proofs.Turns.{Defining}
use Rattle.answers.proofs.put_defs.Given as goal

abbrev pub invariant-loop-d : goal.invariant-loop-d
invariant-loop-d l = Defining l.defs l.from l.initial.answer l.answer l.at l.d-index
