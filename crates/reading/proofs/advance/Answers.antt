-- `reading::advance` meets its contract: what stands there decides, and then the four tests.
-- Assumes nothing.
use Rattle.std.proofs.lemmas.Result.{err_from_is_err_and}
use Rattle.reading.proofs.Admitting.{nothing_there, not_admitted, goes_on}
use Rattle.reading.proofs.advance.Goals as goal

pub returns-in_err-item : goal.returns-in_err-item
returns-in_err-item c =
    let p = err_from_is_err_and c.from_residual.result c.from_residual.ensures.1 in rw (p.1, p.2) (nothing_there _ _ _ _ _ _ _ _ c.in_err-item.ensures)

pub returns-in_err-next : goal.returns-in_err-next
returns-in_err-next c =
    let p = err_from_is_err_and c.from_residual-in_err-next.result c.from_residual-in_err-next.ensures.1 in rw (p.1, p.2) (not_admitted _ _ _ _ _ _ _ _ c.in_ok-item.ensures _ c.in_err-next.ensures)

pub returns : goal.returns
returns c = goes_on _ _ _ _ _ _ _ _ c.in_ok-item.ensures _ c.in_ok-next.ensures
