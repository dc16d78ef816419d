-- `atoms::mark_atoms` meets its contract: so many entries have their marks (`Marking`). Assumes nothing.
use Rattle.atoms.proofs.Marking.{Marking}
use Rattle.atoms.proofs.mark_atoms.Given as goal

abbrev pub invariant-loop-e : goal.invariant-loop-e
invariant-loop-e l = Marking l.types l.initial.marks l.marks l.e
