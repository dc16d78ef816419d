-- `items::go_tail` meets its contract.
-- Assumes nothing.
use mathlib.Core.Path.{refl, ap}
use Rattle.tokens.specs.declared.Token.{Token}
use Rattle.tokens.specs.Says.{kind_of}
use Rattle.tokens.proofs.Numbers.{other_kind}
use Rattle.items.proofs.Framed.{tail_done, tail_more, tail_same}
use Rattle.items.proofs.go_tail.Goals as goal

pub returns-then-too_many : goal.returns-then-too_many
returns-then-too_many c = λ code. tail_same _ _ _ _ c.token_at-t.ensures refl code (ap kind_of c.in-Comma.is) c.requires c.if-too_many.true

pub returns-else-too_many : goal.returns-else-too_many
returns-else-too_many c = λ code. tail_more _ _ _ _ c.token_at-t.ensures refl code (ap kind_of c.in-Comma.is) c.requires c.if-too_many.false c.saturating_sub-m.ensures

pub returns-in_default : goal.returns-in_default
returns-in_default c = λ code. tail_done _ _ _ _ c.token_at-t.ensures refl code (other_kind _ Token.Comma (λ v. refl) c.in_default.not-Comma)
