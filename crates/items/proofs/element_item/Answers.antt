-- `items::element_item` meets its contract.
-- Assumes nothing.
use Rattle.std.proofs.lemmas.Result.{err_from_is_err_and}
use Rattle.items.proofs.Openings.{element_on, element_not}
use Rattle.items.proofs.element_item.Goals as goal

pub returns-in_err-l : goal.returns-in_err-l
returns-in_err-l c =
    let p = err_from_is_err_and c.from_residual.result c.from_residual.ensures.1 in
    λ code. rw (p.1, p.2) (element_not code c.in_err-l.ensures)

pub returns : goal.returns
returns c = λ code. element_on code c.in_ok-l.ensures (c.inside_item.ensures code)
