-- `items::go_group` meets its contract.
-- Assumes nothing.
use Rattle.std.proofs.lemmas.Result.{err_from_is_err_and}
use Rattle.items.proofs.Framed.{group_done, group_stops}
use Rattle.items.proofs.go_group.Goals as goal

pub returns-in_err-next : goal.returns-in_err-next
returns-in_err-next c =
    let p = err_from_is_err_and c.from_residual.result c.from_residual.ensures.1 in
    λ code. rw (p.1, p.2) (group_stops code c.in_err-next.ensures)

pub returns : goal.returns
returns c = λ code. group_done code c.in_ok-next.ensures
