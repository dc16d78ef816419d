-- `records::value_at` meets its contract: fewer than four bytes, a kind that is unknown, or what `item_at` makes of it.
-- Assumes nothing.
use Rattle.std.proofs.lemmas.Result.{err_from_is_err_and}
use Rattle.records.proofs.Found.{short, strange}
use Rattle.records.proofs.value_at.Goals as goal

pub returns-in_err-kind : goal.returns-in_err-kind
returns-in_err-kind c =
    let p = err_from_is_err_and c.from_residual.result c.from_residual.ensures.1 in
    rw (p.1, p.2, c.in_err-kind.ensures.1) (short _ _ _ c.in_err-kind.ensures.0)

pub returns-in_default : goal.returns-in_default
returns-in_default c = strange _ _ _ c.in_ok-kind.ensures.0 c.in_ok-kind.ensures.1 c.in_default.ensures
