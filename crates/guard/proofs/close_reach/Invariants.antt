-- `guard::close_reach` meets its contract: closed through the definitions below k (`Closing`). Assumes nothing.
use lib.ListN.{length}
use Rattle.guard.proofs.Closing.{Closing}
use Rattle.guard.proofs.close_reach.Given as goal

abbrev pub invariant-loop-k : goal.invariant-loop-k
invariant-loop-k l = Closing (length l.initial.reach) l.initial.reach l.reach l.k
