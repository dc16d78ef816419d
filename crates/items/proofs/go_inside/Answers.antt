-- `items::go_inside` meets its contract.
-- Assumes nothing.
use Rattle.std.proofs.lemmas.Result.{err_from_is_err_and}
use Rattle.items.proofs.Framed.{inside_done, inside_stops}
use Rattle.items.proofs.go_inside.Goals as goal

pub returns-in_err-next : goal.returns-in_err-next
returns-in_err-next c =
    let p = err_from_is_err_and c.from_residual.result c.from_residual.ensures.1 in
    rw (p.1, p.2) (inside_stops c.in_err-next.ensures)

pub returns : goal.returns
returns c = inside_done c.in_ok-next.ensures c.saturating_sub-q.ensures c.made.ensures
