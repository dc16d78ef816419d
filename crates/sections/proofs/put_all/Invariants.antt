-- `sections::put_all` meets its contract: the records so far stand in the buffer.
-- Assumes nothing.
use Rattle.sections.proofs.Turns.{Recording}
use Rattle.sections.proofs.put_all.Given as goal

abbrev pub invariant-loop-i : goal.invariant-loop-i
invariant-loop-i l = Recording l.code l.initial.out l.out l.at l.i
