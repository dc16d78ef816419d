-- `atoms::first_tangled` meets its contract: so many variables are not tangled (`Seeking`). Assumes nothing.
use Rattle.atoms.proofs.Variables.{Seeking}
use Rattle.atoms.proofs.first_tangled.Given as goal

abbrev pub invariant-loop-i : goal.invariant-loop-i
invariant-loop-i l = Seeking l.vars l.marks l.i
