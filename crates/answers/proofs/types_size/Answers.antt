-- `answers::types_size` meets its contract: the bytes so far, with those to come, are the whole (`Sizing`).
-- Assumes nothing.
use native.Mathlib.Omega.{arith}
use Rattle.answers.proofs.Turns.{sizing_none, sizing_more, sizing_room, sizing_all}
use Rattle.answers.proofs.types_size.Goals as goal

pub loop-i-init : goal.loop-i-init
loop-i-init c = sizing_none _ c.requires

pub overflow_add-n : goal.overflow_add-n
overflow_add-n c = omega (arith, sizing_room _ c.loop-i.invariant (omega arith) c.get.result c.get.ensures c.size_of-n.ensures)

pub loop-i-preserved : goal.loop-i-preserved
loop-i-preserved c = sizing_more _ c.loop-i.invariant (omega arith) c.get.result c.get.ensures c.size_of-n.ensures

pub returns : goal.returns
returns c = sizing_all _ c.loop-i.invariant (omega arith)
