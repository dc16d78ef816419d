-- `guard::fill_reach` meets its contract: the sets below d are those of their entries (`Beginning`). Assumes nothing.
use Rattle.guard.proofs.Beginning.{Beginning}
use Rattle.guard.proofs.fill_reach.Given as goal

abbrev pub invariant-loop-d : goal.invariant-loop-d
invariant-loop-d l = Beginning l.defs l.masks l.initial.reach l.reach l.d
