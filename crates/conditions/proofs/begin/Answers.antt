-- `conditions::begin` meets its contract.
-- Assumes nothing.
use mathlib.Core.Path.{refl, ap}
use native.Mathlib.Omega.{arith}
use Rattle.std.proofs.lemmas.Result.{err_from_is_err_and}
use Rattle.tokens.specs.declared.Token.{Token}
use Rattle.tokens.specs.Says.{kind_of}
use Rattle.tokens.proofs.Numbers.{other_kind}
use Rattle.conditions.proofs.Beginning.{next_inside, begins_true, begins_false, begins_equal, begins_empty, begins_not, begins_or, begins_none}
use Rattle.conditions.proofs.begin.Goals as goal

pub returns-in-True : goal.returns-in-True
returns-in-True c = begins_true _ _ c.token_at-t.ensures c.requires.inside refl (ap kind_of c.in-True.is) c.made.ensures

pub returns-in-False : goal.returns-in-False
returns-in-False c = begins_false _ _ c.token_at-t.ensures c.requires.inside refl (ap kind_of c.in-False.is) c.made-in-False.ensures

pub returns-in_err-part-in-Dollar : goal.returns-in_err-part-in-Dollar
returns-in_err-part-in-Dollar c =
    let p = err_from_is_err_and c.from_residual.result c.from_residual.ensures.1 in
    rw (p.1, p.2) (begins_equal _ _ c.token_at-t.ensures c.requires.inside refl (ap kind_of c.in-Dollar.is) c.in_err-part-in-Dollar.ensures)

pub returns-in_ok-part-in-Dollar : goal.returns-in_ok-part-in-Dollar
returns-in_ok-part-in-Dollar c = begins_equal _ _ c.token_at-t.ensures c.requires.inside refl (ap kind_of c.in-Dollar.is) c.in_ok-part-in-Dollar.ensures

pub empty-requires-clause-inside : goal.empty-requires-clause-inside
empty-requires-clause-inside c = (next_inside _ _ c.token_at-t.ensures c.requires.inside refl (λ z. omega (arith, z, ap kind_of c.in-Empty.is))).1

pub returns-in_err-part-in-Empty : goal.returns-in_err-part-in-Empty
returns-in_err-part-in-Empty c =
    let p = err_from_is_err_and c.from_residual-in_err-part-in-Empty.result c.from_residual-in_err-part-in-Empty.ensures.1 in
    rw (p.1, p.2) (begins_empty _ _ c.token_at-t.ensures c.requires.inside refl (ap kind_of c.in-Empty.is) c.in_err-part-in-Empty.ensures)

pub returns-in_ok-part-in-Empty : goal.returns-in_ok-part-in-Empty
returns-in_ok-part-in-Empty c = begins_empty _ _ c.token_at-t.ensures c.requires.inside refl (ap kind_of c.in-Empty.is) c.in_ok-part-in-Empty.ensures

pub returns-in-Not : goal.returns-in-Not
returns-in-Not c = begins_not _ _ c.token_at-t.ensures c.requires.inside refl (ap kind_of c.in-Not.is) c.requires.few c.opened.ensures

pub returns-in-Opens : goal.returns-in-Opens
returns-in-Opens c = begins_or _ _ c.token_at-t.ensures c.requires.inside refl (ap kind_of c.in-Opens.is) c.requires.few c.opened-in-Opens.ensures

pub returns-in_default : goal.returns-in_default
returns-in_default c = begins_none _ _ c.token_at-t.ensures c.requires.inside refl (other_kind _ Token.True (λ v. refl) c.in_default.not-True) (other_kind _ Token.False (λ v. refl) c.in_default.not-False) (other_kind _ Token.Dollar (λ v. refl) c.in_default.not-Dollar) (other_kind _ Token.Empty (λ v. refl) c.in_default.not-Empty) (other_kind _ Token.Not (λ v. refl) c.in_default.not-Not) (other_kind _ Token.Opens (λ v. refl) c.in_default.not-Opens)
