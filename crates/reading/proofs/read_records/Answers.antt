-- `reading::read_records` meets its contract: under two entries of room there is nothing to read into cleared tables.
-- Assumes nothing.
use native.Mathlib.Omega.{arith}
use Rattle.reading.proofs.Whole.{left_small}
use Rattle.reading.proofs.read_records.Goals as goal

pub returns-then-too_small : goal.returns-then-too_small
returns-then-too_small c =
    left_small _ _ (omega (arith, c.if-too_small.true, c.type_room-too_small.ensures, c.clear.auto.t)) c.clear.ensures c.clear-2.ensures
