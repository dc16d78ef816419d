-- `answers::put_types` meets its contract: the records so far stand in the buffer (`Typing`).
-- Assumes nothing.
use native.Mathlib.Omega.{arith}
use Rattle.answers.proofs.Turns.{typing_none, typing_more, typing_room, typing_all}
use Rattle.answers.proofs.put_types.Goals as goal

pub loop-e-init : goal.loop-e-init
loop-e-init c = typing_none _ c.requires.typed c.requires.room

pub put_type-at-requires : goal.put_type-at-requires
put_type-at-requires c = typing_room _ c.loop-e.invariant (omega arith) c.get.result c.get.ensures

pub loop-e-preserved : goal.loop-e-preserved
loop-e-preserved c =
    typing_more _ c.loop-e.invariant (omega arith) c.get.result c.get.ensures c.put_type-at.auto.answer c.put_type-at.ensures

pub returns : goal.returns
returns c = typing_all _ c.loop-e.invariant (omega arith)
