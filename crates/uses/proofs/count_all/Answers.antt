-- `uses::count_all` meets its contract: so many nodes' uses have been counted (`Counting`). Assumes nothing.
use Rattle.uses.proofs.Counting.{counting_none, counting_room, counting_more, counting_all}
use native.Mathlib.Omega.{arith}
use Rattle.uses.proofs.count_all.Goals as goal

pub loop-i-init : goal.loop-i-init
loop-i-init c = counting_none _ _

pub count_node-requires : goal.count_node-requires
count_node-requires c =
    counting_room _ _ c.get.result c.loop-i.invariant (omega (arith, c.len-i-end.ensures)) c.get.ensures c.requires.lowers c.requires.room c.requires.zero

pub loop-i-preserved : goal.loop-i-preserved
loop-i-preserved c =
    counting_more _ _ c.get.result c.loop-i.invariant (omega (arith, c.len-i-end.ensures)) c.get.ensures c.count_node.auto.counts c.count_node.ensures

pub returns : goal.returns
returns c = counting_all _ _ c.loop-i.invariant (omega (arith, c.len-i-end.ensures))
