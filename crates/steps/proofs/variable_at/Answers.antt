-- `steps::variable_at` meets its contract.
-- Assumes nothing.
use Rattle.std.proofs.lemmas.Result.{err_from_is_err_and}
use Rattle.steps.proofs.Expecting.{variable_not, variable_on}
use Rattle.steps.proofs.variable_at.Goals as goal

pub number_in-requires-clause-inside : goal.number_in-requires-clause-inside
number_in-requires-clause-inside c = c.in_ok-next.ensures.onward.1

pub returns-in_err-next : goal.returns-in_err-next
returns-in_err-next c =
    let p = err_from_is_err_and c.from_residual.result c.from_residual.ensures.1 in
    rw (p.1, p.2) (variable_not c.in_err-next.ensures)

pub returns : goal.returns
returns c = variable_on c.in_ok-next.ensures c.number_in.ensures
