-- `items::text_item` meets its contract.
-- Assumes nothing.
use Rattle.std.proofs.lemmas.Result.{err_from_is_err_and}
use Rattle.items.proofs.Items.{text_made, text_not}
use Rattle.items.proofs.text_item.Goals as goal

pub returns-in_err-t : goal.returns-in_err-t
returns-in_err-t c =
    let p = err_from_is_err_and c.from_residual.result c.from_residual.ensures.1 in
    λ deep. rw (p.1, p.2) (text_not c.in_err-t.ensures deep)

pub returns : goal.returns
returns c = text_made c.in_ok-t.ensures c.made.ensures
