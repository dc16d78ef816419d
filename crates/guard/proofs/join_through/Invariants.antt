-- `guard::join_through` meets its contract: the sets below d are joined, the others as they were (`Joining`). Assumes nothing.
use lib.ListN.{length}
use Rattle.guard.proofs.Closing.{Joining}
use Rattle.guard.proofs.join_through.Given as goal

abbrev pub invariant-loop-set : goal.invariant-loop-set
invariant-loop-set l = Joining (length l.initial.reach) l.k l.initial.reach l.reach l.set-index
