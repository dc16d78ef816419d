-- `sections::put_all` meets its contract: the records so far stand in the buffer.
-- Assumes nothing.
use Rattle.sections.proofs.Turns.{recording_none, recording_room, recording_more, recording_all}
use native.Mathlib.Omega.{arith}
use Rattle.sections.proofs.put_all.Goals as goal

pub loop-i-init : goal.loop-i-init
loop-i-init c =
    recording_none _ c.requires.room

pub put_record-at-requires : goal.put_record-at-requires
put_record-at-requires c =
    recording_room _ c.loop-i.invariant (omega (arith, c.len-i-end.ensures)) c.get.result c.get.ensures

pub loop-i-preserved : goal.loop-i-preserved
loop-i-preserved c =
    recording_more _ c.loop-i.invariant (omega (arith, c.len-i-end.ensures)) c.get.result c.get.ensures c.put_record-at.auto.out c.put_record-at.ensures

pub shape_of-out : goal.shape_of-out
shape_of-out c =
    c.loop-i.invariant.long

pub returns : goal.returns
returns c =
    recording_all _ c.loop-i.invariant (omega (arith, c.len-i-end.ensures))
