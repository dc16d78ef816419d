-- `parses::finish` meets its contract.
-- Assumes nothing.
use mathlib.Core.Path.{◌≡◌, refl, ap}
use Rattle.std.proofs.Common.{rules}
use Rattle.tokens.specs.declared.Token.{Token}
use Rattle.tokens.specs.Says.{kind_of}
use Rattle.tokens.proofs.Numbers.{other_kind}
use Rattle.parses.proofs.Finishing.{not_end, over_full, at_end}
use Rattle.parses.proofs.finish.Goals as goal

pub returns-then-goes_on : goal.returns-then-goes_on
returns-then-goes_on c =
    let other : c.token_at-t.result.token ≡ Token.End → ⊥ = search rules in
    not_end _ _ c.token_at-t.ensures refl (other_kind _ Token.End (λ v. refl) other)

pub returns-then-too_many : goal.returns-then-too_many
returns-then-too_many c =
    let same : c.token_at-t.result.token ≡ Token.End = search rules in
    over_full _ _ c.token_at-t.ensures refl (ap kind_of same) c.if-too_many.true

pub returns : goal.returns
returns c =
    let same : c.token_at-t.result.token ≡ Token.End = search rules in
    at_end _ _ c.token_at-t.ensures refl (ap kind_of same) c.if-too_many.false
