-- `moves::hold` meets its contract.
-- Assumes nothing.
use Rattle.moves.proofs.Adding.{stored_behind}
use Rattle.moves.proofs.hold.Goals as goal

pub returns : goal.returns
returns c = stored_behind _ _ _ _ c.copy.ensures
