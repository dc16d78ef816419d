-- `items::go_source` meets its contract.
-- Assumes nothing.
use Rattle.std.proofs.lemmas.Result.{err_from_is_err_and}
use Rattle.items.proofs.Framed.{source_more, source_stops}
use Rattle.items.proofs.go_source.Goals as goal

pub returns-in_err-next : goal.returns-in_err-next
returns-in_err-next c =
    let p = err_from_is_err_and c.from_residual.result c.from_residual.ensures.1 in
    λ code. rw (p.1, p.2) (source_stops code c.in_err-next.ensures)

pub returns : goal.returns
returns c = λ code. source_more code c.in_ok-next.ensures c.saturating_sub-p.ensures
