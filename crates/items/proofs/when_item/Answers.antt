-- `items::when_item` meets its contract.
-- Assumes nothing.
use native.Mathlib.Numerals.{add-one}
use Rattle.std.proofs.lemmas.Result.{err_from_is_err_and}
use Rattle.items.proofs.Guards.{when_deep, when_not, when_on, when_inside}
use Rattle.items.proofs.when_item.Goals as goal

pub returns-in_err-check_depth : goal.returns-in_err-check_depth
returns-in_err-check_depth c =
    let p = err_from_is_err_and c.from_residual.result c.from_residual.ensures.1 in
    rw (p.1, p.2, c.in_err-check_depth.ensures.1) (when_deep c.in_err-check_depth.ensures.0)

pub returns-in_err-part : goal.returns-in_err-part
returns-in_err-part c =
    let p = err_from_is_err_and c.from_residual-in_err-part.result c.from_residual-in_err-part.ensures.1 in
    rw (p.1, p.2) (when_not _ (rw add-one at c.in_err-part.ensures) c.in_ok-check_depth.ensures)

pub body_item-requires-clause-inside : goal.body_item-requires-clause-inside
body_item-requires-clause-inside c = (when_inside c.in_ok-part.ensures c.requires.few).0

pub body_item-requires-clause-few : goal.body_item-requires-clause-few
body_item-requires-clause-few c = (when_inside c.in_ok-part.ensures c.requires.few).1

pub returns : goal.returns
returns c = when_on _ (rw add-one at c.in_ok-part.ensures) c.in_ok-check_depth.ensures c.body_item.ensures
