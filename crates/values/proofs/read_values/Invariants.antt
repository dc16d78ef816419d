-- `values::read_values` meets its contract: reading the rest of the variables is reading them all (`Scanning`). Assumes nothing.
use lib.ListN.{length}
use Rattle.values.proofs.Scanning.{Scanning}
use Rattle.values.proofs.read_values.Given as goal

abbrev pub invariant-loop-i : goal.invariant-loop-i
invariant-loop-i l =
    Scanning l.s l.vars l.room (length l.initial.work) (length l.initial.stack) l.stack l.ends l.work l.i l.at l.odd l.kept
