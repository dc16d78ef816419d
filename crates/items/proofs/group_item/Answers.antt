-- `items::group_item` meets its contract.
-- Assumes nothing.
use Rattle.std.proofs.lemmas.Result.{err_from_is_err_and}
use mathlib.Core.Path.{refl, ap}
use Rattle.tokens.specs.declared.Token.{Token}
use Rattle.tokens.specs.Says.{kind_of}
use Rattle.tokens.proofs.Numbers.{other_kind}
use Rattle.items.proofs.Openings.{group_deep, group_none, group_opens}
use Rattle.items.proofs.group_item.Goals as goal

pub returns-in_err-check_depth : goal.returns-in_err-check_depth
returns-in_err-check_depth c =
    let p = err_from_is_err_and c.from_residual.result c.from_residual.ensures.1 in
    rw (p.1, p.2, c.in_err-check_depth.ensures.1) (group_deep c.in_err-check_depth.ensures.0)

pub returns-in-Closes : goal.returns-in-Closes
returns-in-Closes c = group_none _ _ _ _ c.token_at-t.ensures refl c.in_ok-check_depth.ensures (ap kind_of c.in-Closes.is) c.requires.inside c.made.ensures

pub returns-in_default : goal.returns-in_default
returns-in_default c = group_opens _ _ _ _ c.token_at-t.ensures refl c.in_ok-check_depth.ensures (other_kind _ Token.Closes (λ v. refl) c.in_default.not-Closes) c.requires.inside
