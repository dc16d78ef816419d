-- `typed::settle` meets its contract: the walk answered an entry and the tables stay, or both are cleared. Assumes nothing.
use Rattle.typed.proofs.Leaving.{kept_settled, cleared_settled}
use Rattle.typed.proofs.settle.Goals as goal

pub returns-in-Ok : goal.returns-in-Ok
returns-in-Ok c = rw c.in-Ok.is (kept_settled _)

pub returns-in-Err : goal.returns-in-Err
returns-in-Err c = rw c.in-Err.is (cleared_settled _ c.clear.ensures c.clear_nodes.ensures)
