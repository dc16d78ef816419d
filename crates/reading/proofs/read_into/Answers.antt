-- `reading::read_into` meets its contract: the loop starts on cleared tables with entries 0 and 1.
-- Assumes nothing.
use mathlib.Core.Path.{refl}
use Rattle.meaning.specs.Base.{zeros}
use Rattle.std.proofs.lemmas.Result.{err_from_is_err_and}
use Rattle.reading.specs.Lists.{lists}
use Rattle.reading.proofs.Whole.{begun, left_refused, left_done}
use Rattle.reading.proofs.read_into.Goals as goal

pub read_on-requires : goal.read_on-requires
unfolding zeros
read_on-requires c =
    begun c.requires.blank c.type_room-room.ensures c.code_room-limit.ensures c.put_base.auto.types c.put_base.ensures c.requires.clear refl refl

pub returns-in_err-counts : goal.returns-in_err-counts
returns-in_err-counts c =
    let p = err_from_is_err_and c.from_residual.result c.from_residual.ensures.1 in
    rw (p.1, p.2) (left_refused _ _ c.type_room-room.ensures c.code_room-limit.ensures c.requires.blank.room c.put_base.auto.types refl (lists c.read_on.new.types c.read_on.new.code c.read_on.new.defs c.read_on.new.vars) refl refl _ c.in_err-counts.ensures)

pub returns : goal.returns
returns c =
    left_done _ _ c.type_room-room.ensures c.code_room-limit.ensures c.requires.blank.room c.put_base.auto.types refl (lists c.read_on.new.types c.read_on.new.code c.read_on.new.defs c.read_on.new.vars) refl refl _ c.in_ok-counts.ensures
