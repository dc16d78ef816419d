-- `written::write_with` meets its contract: what the walk tells, 23 first.
-- Assumes nothing.
use Rattle.written.proofs.Leaving.{left_deep, left_short, left_written}
use Rattle.written.proofs.write_with.Goals as goal

pub returns-in-Some : goal.returns-in-Some
returns-in-Some c =
    left_deep c.walk-told.ensures c.in-Some.is c.clear_bytes.ensures

pub returns-then-text-bytes : goal.returns-then-text-bytes
returns-then-text-bytes c =
    left_short c.walk-told.ensures c.in_default.is c.if-text-bytes.true c.clear_bytes-then-text-bytes.ensures

pub returns : goal.returns
returns c =
    left_written c.walk-told.ensures c.in_default.is c.if-text-bytes.false c.clear_bytes-2.ensures
