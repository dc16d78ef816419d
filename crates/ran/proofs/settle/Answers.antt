-- `ran::settle` meets its contract: the tables stay, or all are cleared. Assumes nothing.
use Rattle.ran.proofs.Leaving.{done_settles, full_settles}
use Rattle.ran.proofs.settle.Goals as goal

pub returns-in-Ok : goal.returns-in-Ok
returns-in-Ok c =
    done_settles _ _ _ _ _ c.in-Ok.is

pub returns-in-Err : goal.returns-in-Err
returns-in-Err c =
    full_settles _ _ _ _ _ c.in-Err.is c.clear-in-Err.ensures.types c.clear-in-Err.ensures.nodes c.clear.ensures
