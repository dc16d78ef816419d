-- So many of the fields are written behind the length and the kind.
-- Assumes nothing.
use Rattle.sections.proofs.Fields.{Fielding}
use Rattle.sections.proofs.put_record.Given as goal

abbrev pub invariant-loop-i : goal.invariant-loop-i
invariant-loop-i l = Fielding l.fn.x.kind l.fn.x.a l.fn.x.b l.fn.x.c l.size l.at l.fn.out l.out l.i
