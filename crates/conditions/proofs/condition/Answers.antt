-- `conditions::condition` meets its contract.
-- Assumes nothing.
use Rattle.std.proofs.lemmas.Result.{err_from_is_err_and}
use Rattle.conditions.proofs.Going.{conditions, conditions_not}
use Rattle.conditions.proofs.condition.Goals as goal

pub returns-in_err-first : goal.returns-in_err-first
returns-in_err-first c =
    let p = err_from_is_err_and c.from_residual.result c.from_residual.ensures.1 in
    rw (p.1, p.2) (conditions_not c.in_err-first.ensures c.requires.inside)

pub returns : goal.returns
returns c = conditions c.in_ok-first.ensures c.requires.inside c.run.ensures
