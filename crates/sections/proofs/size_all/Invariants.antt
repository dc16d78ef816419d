-- `sections::size_all` meets its contract: the bytes so far, with those to come, are the whole.
-- Assumes nothing.
use Rattle.sections.proofs.Turns.{Sizing}
use Rattle.sections.proofs.size_all.Given as goal

abbrev pub invariant-loop-i : goal.invariant-loop-i
invariant-loop-i l = Sizing l.code l.n l.i
