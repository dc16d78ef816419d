-- `items::inside_item` meets its contract.
-- Assumes nothing.
use Rattle.std.proofs.lemmas.Result.{err_from_is_err_and}
use mathlib.Core.Path.{refl, ap}
use Rattle.tokens.specs.declared.Token.{Token}
use Rattle.tokens.specs.Says.{kind_of}
use Rattle.tokens.proofs.Numbers.{other_kind}
use Rattle.items.proofs.Openings.{label_not, label_deep, label_opens}
use Rattle.items.proofs.inside_item.Goals as goal

pub returns-in_err-check_depth-in-Inside : goal.returns-in_err-check_depth-in-Inside
returns-in_err-check_depth-in-Inside c =
    let p = err_from_is_err_and c.from_residual.result c.from_residual.ensures.1 in
    λ code. rw (p.1, p.2, c.in_err-check_depth-in-Inside.ensures.1) (label_deep _ _ _ _ c.token_at-t.ensures refl code (ap kind_of c.in-Inside.is) c.in_err-check_depth-in-Inside.ensures.0)

pub returns-in_ok-check_depth-in-Inside : goal.returns-in_ok-check_depth-in-Inside
returns-in_ok-check_depth-in-Inside c = λ code. label_opens _ _ _ _ c.token_at-t.ensures refl code (ap kind_of c.in-Inside.is) c.in_ok-check_depth-in-Inside.ensures c.requires.inside

pub returns-in_default : goal.returns-in_default
returns-in_default c = λ code. label_not _ _ _ _ c.token_at-t.ensures refl code (other_kind _ Token.Inside (λ v. refl) c.in_default.not-Inside)
