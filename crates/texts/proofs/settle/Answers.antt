-- `texts::settle` meets its contract: the tables stay, or both are cleared.
-- Assumes nothing.
use Rattle.texts.proofs.Leaving.{written_settled, refused_settled}
use Rattle.texts.proofs.settle.Goals as goal

pub write-requires : goal.write-requires
write-requires c = rw c.new.ensures c.requires.ready

pub returns-in-Ok : goal.returns-in-Ok
returns-in-Ok c = written_settled _ _ _ _ _ (rw c.new.ensures at c.in-Ok.ensures)

pub returns-in-Err : goal.returns-in-Err
returns-in-Err c = refused_settled _ _ _ _ _ (rw c.new.ensures at c.in-Err.ensures) c.clear_entries.ensures c.clear_nodes.ensures
