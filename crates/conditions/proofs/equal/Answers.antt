-- `conditions::equal` meets its contract.
-- Assumes nothing.
use Rattle.std.proofs.lemmas.Result.{err_from_is_err_and}
use Rattle.conditions.proofs.Leaves.{equal_not, equal_no_sign, equal_no_second, equal_both}
use Rattle.conditions.proofs.equal.Goals as goal

pub returns-in_err-v : goal.returns-in_err-v
returns-in_err-v c =
    let p = err_from_is_err_and c.from_residual.result c.from_residual.ensures.1 in
    rw (p.1, p.2) (equal_not _ _ c.in_err-v.ensures)

pub returns-in_err-behind : goal.returns-in_err-behind
returns-in_err-behind c =
    let p = err_from_is_err_and c.from_residual-in_err-behind.result c.from_residual-in_err-behind.ensures.1 in
    rw (p.1, p.2) (equal_no_sign _ _ c.in_ok-v.ensures c.in_err-behind.ensures)

pub returns-in_err-w : goal.returns-in_err-w
returns-in_err-w c =
    let p = err_from_is_err_and c.from_residual-in_err-w.result c.from_residual-in_err-w.ensures.1 in
    rw (p.1, p.2) (equal_no_second _ _ c.in_ok-v.ensures c.in_ok-behind.ensures c.in_err-w.ensures)

pub returns : goal.returns
returns c = equal_both _ _ c.in_ok-v.ensures c.in_ok-behind.ensures c.in_ok-w.ensures c.made.ensures
