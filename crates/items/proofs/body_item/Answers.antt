-- `items::body_item` meets its contract.
-- Assumes nothing.
use Rattle.std.proofs.lemmas.Result.{err_from_is_err_and}
use Rattle.items.proofs.Guards.{guard_not, guard_opens}
use Rattle.items.proofs.body_item.Goals as goal

pub returns-in_err-next : goal.returns-in_err-next
returns-in_err-next c =
    let p = err_from_is_err_and c.from_residual.result c.from_residual.ensures.1 in
    rw (p.1, p.2) (guard_not c.in_err-next.ensures)

pub returns : goal.returns
returns c = guard_opens c.in_ok-next.ensures c.saturating_sub-c.ensures c.requires.low
