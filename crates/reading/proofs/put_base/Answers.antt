-- `reading::put_base` meets its contract: two entries stored behind nothing.
-- Assumes nothing.
use Rattle.reading.proofs.Whole.{base_held}
use Rattle.reading.proofs.put_base.Goals as goal

pub returns : goal.returns
returns c =
    base_held c.requires c.put_entry.ensures c.put_entry-2.ensures
