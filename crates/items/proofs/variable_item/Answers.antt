-- `items::variable_item` meets its contract.
-- Assumes nothing.
use Rattle.std.proofs.lemmas.Result.{err_from_is_err_and}
use Rattle.items.proofs.Openings.{variable_on, variable_not}
use Rattle.items.proofs.variable_item.Goals as goal

pub returns-in_err-v : goal.returns-in_err-v
returns-in_err-v c =
    let p = err_from_is_err_and c.from_residual.result c.from_residual.ensures.1 in
    λ deep. rw (p.1, p.2) (variable_not c.in_err-v.ensures deep)

pub returns : goal.returns
returns c = variable_on c.in_ok-v.ensures c.step_item.ensures
