-- `sections::put_record` meets its contract: its fields are written one behind the other.
-- Assumes nothing.
use mathlib.Core.Path.{refl}
use Rattle.sections.proofs.Fields.{size_small, fields_none, fields_room, fields_more, fields_all}
use native.Mathlib.Omega.{arith}
use Rattle.sections.proofs.put_record.Goals as goal

pub overflow_cast-size : goal.overflow_cast-size
overflow_cast-size c = omega (arith, size_small _ c.size_of-size.ensures)

pub loop-i-init : goal.loop-i-init
loop-i-init c = fields_none _ _ _ _ c.size_of-size.ensures c.put_word.ensures c.put_word-2.ensures c.requires c.put_word.auto.t c.put_word-2.auto.t

pub bounds-fields-i : goal.bounds-fields-i
bounds-fields-i c = (fields_room _ _ _ _ c.loop-i.invariant c.loop-i-test.true (omega arith)).0

pub loop-i-preserved : goal.loop-i-preserved
loop-i-preserved c = fields_more _ _ _ _ c.loop-i.invariant c.loop-i-test.true (omega arith) c.put_word-in-loop-i.ensures c.put_word-in-loop-i.auto.t

pub returns : goal.returns
returns c =
    fields_all _ _ _ _ c.loop-i.invariant c.loop-i-test.false (omega (arith, c.loop-i.auto.i-end)) (omega (arith, size_small _ c.size_of-size.ensures))
