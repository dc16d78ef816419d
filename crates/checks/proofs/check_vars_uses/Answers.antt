-- `checks::check_vars_uses` meets its contract: 11, then 12. Assumes nothing.
use Rattle.std.proofs.lemmas.Result.{err_from_is_err_and}
use Rattle.checks.proofs.Answering.{vars_refused, vars_passed}
use Rattle.checks.proofs.check_vars_uses.Goals as goal

pub returns-in_err-refuse_at : goal.returns-in_err-refuse_at
returns-in_err-refuse_at c =
    let p = err_from_is_err_and c.from_residual.result c.from_residual.ensures.1 in
    rw (p.1, p.2) (λ D formed. vars_refused D _ _ _ (c.tangled-tangled.ensures D formed) _ c.in_err-refuse_at.ensures)

pub returns : goal.returns
returns c =
    λ D formed. vars_passed D _ _ _ (c.tangled-tangled.ensures D formed) c.refuse_at-2.result c.in_ok-refuse_at.ensures c.misuse-misused.ensures c.refuse_at-2.ensures
