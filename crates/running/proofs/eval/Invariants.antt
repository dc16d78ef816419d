-- `running::eval` meets its contract: the nodes that are begun, and the spot that is to be done or was done last, say what is left (`Going`).
-- Assumes nothing.
use Rattle.running.specs.Machine.{spot, pile}
use Rattle.running.proofs.Going.{Going, left}
use Rattle.running.proofs.eval.Given as goal

abbrev pub invariant-loop-next : goal.invariant-loop-next
invariant-loop-next l = Going (record { code = l.code; root = spot l.n l.first l.initial.scope l.initial.held l.initial.rest }) (pile l.stack) l.scope l.held l.rest l.next

abbrev pub decreases-loop-next : goal.decreases-loop-next
decreases-loop-next l = left (record { code = l.code; root = spot l.n l.first l.initial.scope l.initial.held l.initial.rest }) (pile l.stack) l.next
