-- `reading::declared` meets its contract: looking on from a variable is looking through all.
-- Assumes nothing.
use Rattle.reading.proofs.Looking.{Looking}
use Rattle.reading.proofs.declared.Given as goal

abbrev pub invariant-loop-i : goal.invariant-loop-i
invariant-loop-i l = Looking l.vars l.v l.i
