-- `guard::close_reach` meets its contract: closed through the definitions below k (`Closing`). Assumes nothing.
use Rattle.guard.proofs.Closing.{closing_none, closing_next, closing_all}
use Rattle.guard.proofs.close_reach.Goals as goal

pub loop-k-init : goal.loop-k-init
loop-k-init c = closing_none _ _

pub loop-k-preserved : goal.loop-k-preserved
loop-k-preserved c =
    closing_next c.loop-k.invariant c.loop-k-test.true c.join_through.ensures c.join_through.auto.reach

pub returns : goal.returns
returns c = closing_all c.loop-k.invariant c.loop-k-test.false
