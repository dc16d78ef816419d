-- `conds::type_cond` meets its contract: what is left to judge at the node that the loop has come to is all that there was (`Going`); nodes that are named
-- are lower, which is the measure of the loop and of the calls. Assumes nothing.
use Rattle.conds.proofs.Going.{Going}
use Rattle.conds.proofs.+type_cond.Given as goal

abbrev pub decreases-type_cond : goal.decreases-type_cond
decreases-type_cond l = l.n

abbrev pub invariant-loop-v : goal.invariant-loop-v
invariant-loop-v l = Going l.code l.scope l.n l.at

abbrev pub decreases-loop-v : goal.decreases-loop-v
decreases-loop-v l = l.at
