-- `items::bound_item` meets its contract.
-- Assumes nothing.
use Rattle.std.proofs.lemmas.Result.{err_from_is_err_and}
use Rattle.items.proofs.Openings.{bound_deep, bound_not, bound_on}
use Rattle.items.proofs.bound_item.Goals as goal

pub returns-in_err-check_depth : goal.returns-in_err-check_depth
returns-in_err-check_depth c =
    let p = err_from_is_err_and c.from_residual.result c.from_residual.ensures.1 in
    λ code. rw (p.1, p.2, c.in_err-check_depth.ensures.1) (bound_deep c.args.binder c.args.deep c.args.place code c.in_err-check_depth.ensures.0)

pub returns-in_err-v : goal.returns-in_err-v
returns-in_err-v c =
    let p = err_from_is_err_and c.from_residual-in_err-v.result c.from_residual-in_err-v.ensures.1 in
    λ code. rw (p.1, p.2) (bound_not c.args.binder c.args.deep c.args.place code c.in_err-v.ensures c.in_ok-check_depth.ensures)

pub returns : goal.returns
returns c = λ code. bound_on c.args.binder c.args.deep c.args.place code c.in_ok-v.ensures c.in_ok-check_depth.ensures (c.sign_item.ensures code)
