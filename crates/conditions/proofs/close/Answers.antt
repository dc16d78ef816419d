-- `conditions::close` meets its contract.
-- Assumes nothing.
use mathlib.Core.Path.{refl}
use Rattle.std.proofs.lemmas.Result.{err_from_is_err_and}
use Rattle.conditions.proofs.Resuming.{closes_on, closes_not}
use Rattle.conditions.proofs.close.Goals as goal

pub returns-in_err-next : goal.returns-in_err-next
returns-in_err-next c =
    let p = err_from_is_err_and c.from_residual.result c.from_residual.ensures.1 in
    rw (p.1, p.2) (closes_not c.in_err-next.ensures)

pub returns : goal.returns
returns c = closes_on c.in_ok-next.ensures refl c.made.ensures
