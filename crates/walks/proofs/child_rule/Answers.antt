-- `walks::child_rule` meets its contract.
-- Assumes nothing.
use Rattle.std.proofs.lemmas.Result.{err_from_is_err_and}
use mathlib.Core.Path.{refl}
use Rattle.walks.proofs.Filters.{child_stop, child_done}
use Rattle.walks.proofs.child_rule.Goals as goal

pub returns-in_err-inside : goal.returns-in_err-inside
returns-in_err-inside c =
    let p = err_from_is_err_and c.from_residual.result c.from_residual.ensures.1 in
    rw (p.1, p.2) (child_stop _ _ _ _ c.in_err-inside.ensures refl)

pub returns : goal.returns
returns c =
    child_done _ _ _ _ c.walk.ensures c.in_ok-inside.was c.filter.ensures
