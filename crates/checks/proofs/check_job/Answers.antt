-- `checks::check_job` meets its contract: 8, then 9 and 10, then 11 and 12. Assumes nothing.
use mathlib.Core.Path.{sym, ◌∙◌}
use Rattle.std.proofs.lemmas.Result.{err_from_is_err_and}
use Rattle.checks.proofs.Answering.{ready_given, ready_few, ready_formed, ready_typed, ready_scoped, ready_lowers, rootless, unsound, settled}
use Rattle.checks.proofs.check_job.Goals as goal

pub returns-then-not-has_root : goal.returns-then-not-has_root
returns-then-not-has_root c =
    λ t stored. rootless _ stored (sym c.if-not-has_root.true ∙ c.has_root.ensures)

pub check_types-requires : goal.check_types-requires
check_types-requires c =
    record { given = ready_given c.requires; few = ready_few c.requires }

pub returns-in_err-check_types : goal.returns-in_err-check_types
returns-in_err-check_types c =
    let p = err_from_is_err_and c.from_residual.result c.from_residual.ensures.1 in
    rw (p.1, p.2) (λ t stored. unsound _ stored _ (sym c.if-not-has_root.false ∙ c.has_root.ensures) c.in_err-check_types.ensures)

pub check_vars_uses-requires : goal.check_vars_uses-requires
check_vars_uses-requires c =
    let sound = sym c.in_ok-check_types.ensures in
    record { typed = ready_typed c.requires sound; few = ready_few c.requires; scoped = ready_scoped c.requires; lowers = ready_lowers c.requires }

pub returns : goal.returns
returns c =
    let sound = c.in_ok-check_types.ensures in
    λ t stored.
    settled _ stored c.check_vars_uses.result (sym c.if-not-has_root.false ∙ c.has_root.ensures) sound (c.check_vars_uses.ensures _ (ready_formed c.requires (sym sound)))
