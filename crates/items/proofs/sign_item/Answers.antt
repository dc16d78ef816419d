-- `items::sign_item` meets its contract.
-- Assumes nothing.
use Rattle.std.proofs.lemmas.Result.{err_from_is_err_and}
use Rattle.items.proofs.Openings.{sign_some, sign_not, sign_opens}
use Rattle.items.proofs.sign_item.Goals as goal

pub expect-requires-clause-not_end : goal.expect-requires-clause-not_end
expect-requires-clause-not_end c = rw c.sign.ensures (sign_some c.args.binder)

pub returns-in_err-next : goal.returns-in_err-next
returns-in_err-next c =
    let p = err_from_is_err_and c.from_residual.result c.from_residual.ensures.1 in
    λ code. rw (p.1, p.2) (sign_not c.args.binder _ _ c.sign.ensures code c.in_err-next.ensures)

pub returns : goal.returns
returns c = λ code. sign_opens c.args.binder _ _ c.sign.ensures code c.in_ok-next.ensures c.requires.low
