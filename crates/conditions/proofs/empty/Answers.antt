-- `conditions::empty` meets its contract.
-- Assumes nothing.
use Rattle.std.proofs.lemmas.Result.{err_from_is_err_and}
use Rattle.conditions.proofs.Leaves.{empty_on, empty_not}
use Rattle.conditions.proofs.empty.Goals as goal

pub returns-in_err-v : goal.returns-in_err-v
returns-in_err-v c =
    let p = err_from_is_err_and c.from_residual.result c.from_residual.ensures.1 in
    rw (p.1, p.2) (empty_not _ _ c.in_err-v.ensures)

pub returns : goal.returns
returns c = empty_on _ _ c.in_ok-v.ensures c.made.ensures
