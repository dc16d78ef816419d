-- `answered::settle` meets its contract: the tables stay, or both are cleared. Assumes nothing.
use Rattle.answered.proofs.Leaving.{written_settled, short_settled}
use Rattle.answered.proofs.settle.Goals as goal

pub clear_entries-requires : goal.clear_entries-requires
clear_entries-requires c = c.requires.types_inside

pub clear_nodes-requires : goal.clear_nodes-requires
clear_nodes-requires c = c.requires.code_inside

pub returns-in-Ok : goal.returns-in-Ok
returns-in-Ok c = written_settled _ _ _ _ _ (rw c.new-known.ensures at c.in-Ok.ensures)

pub returns-in-Err : goal.returns-in-Err
returns-in-Err c = short_settled _ _ _ _ _ (rw c.new-known.ensures at c.in-Err.ensures) c.clear_entries.ensures c.clear_nodes.ensures
