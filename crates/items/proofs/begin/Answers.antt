-- `items::begin` meets its contract.
-- Assumes nothing.
use mathlib.Core.Path.{refl, ap}
use native.Mathlib.Omega.{arith}
use Rattle.tokens.specs.declared.Token.{Token}
use Rattle.tokens.specs.Says.{kind_of}
use Rattle.tokens.proofs.Numbers.{other_kind, other_number}
use Rattle.items.proofs.Items.{token_on}
use Rattle.items.proofs.Begins.{begins_element, begins_variable, begins_text, begins_for, begins_let, begins_when, begins_group, begins_not}
use Rattle.items.proofs.begin.Goals as goal

pub bound_item-requires-clause-inside : goal.bound_item-requires-clause-inside
bound_item-requires-clause-inside c = (token_on _ _ c.token_at-t.ensures refl c.requires.inside (omega (arith, ap kind_of c.in-For.is))).1

pub bound_item-requires-in-Let-clause-inside : goal.bound_item-requires-in-Let-clause-inside
bound_item-requires-in-Let-clause-inside c = (token_on _ _ c.token_at-t.ensures refl c.requires.inside (omega (arith, ap kind_of c.in-Let.is))).1

pub when_item-requires-clause-inside : goal.when_item-requires-clause-inside
when_item-requires-clause-inside c = (token_on _ _ c.token_at-t.ensures refl c.requires.inside (omega (arith, ap kind_of c.in-When.is))).1

pub group_item-requires-clause-inside : goal.group_item-requires-clause-inside
group_item-requires-clause-inside c = (token_on _ _ c.token_at-t.ensures refl c.requires.inside (omega (arith, ap kind_of c.in-Opens.is))).1

pub text_item-requires-clause-inside : goal.text_item-requires-clause-inside
text_item-requires-clause-inside c = (token_on _ _ c.token_at-t.ensures refl c.requires.inside (omega (arith, ap kind_of c.in-Hash.is))).1

pub returns-in-Number : goal.returns-in-Number
returns-in-Number c = begins_element _ _ c.token_at-t.ensures refl (ap kind_of c.in-Number.is) (c.element_item.ensures _)

pub returns-in-For : goal.returns-in-For
returns-in-For c = begins_for _ _ c.token_at-t.ensures refl c.requires.inside (ap kind_of c.in-For.is) (c.bound_item.ensures _)

pub returns-in-Let : goal.returns-in-Let
returns-in-Let c = begins_let _ _ c.token_at-t.ensures refl c.requires.inside (ap kind_of c.in-Let.is) (c.bound_item-in-Let.ensures _)

pub returns-in-When : goal.returns-in-When
returns-in-When c = begins_when _ _ c.token_at-t.ensures refl c.requires.inside (ap kind_of c.in-When.is) c.when_item.ensures

pub returns-in-Opens : goal.returns-in-Opens
returns-in-Opens c = begins_group _ _ c.token_at-t.ensures refl c.requires.inside (ap kind_of c.in-Opens.is) c.group_item.ensures

pub returns-in-Hash : goal.returns-in-Hash
returns-in-Hash c = begins_text _ _ c.token_at-t.ensures refl c.requires.inside (ap kind_of c.in-Hash.is) (c.text_item.ensures _)

pub returns-in-Dollar : goal.returns-in-Dollar
returns-in-Dollar c = begins_variable _ _ c.token_at-t.ensures refl (ap kind_of c.in-Dollar.is) (c.variable_item.ensures _)

pub returns-in_default : goal.returns-in_default
returns-in_default c = begins_not _ _ c.token_at-t.ensures refl (other_kind _ Token.Opens (λ v. refl) c.in_default.not-Opens) (other_kind _ Token.Hash (λ v. refl) c.in_default.not-Hash) (other_number _ c.in_default.not-Number) (other_kind _ Token.Dollar (λ v. refl) c.in_default.not-Dollar) (other_kind _ Token.For (λ v. refl) c.in_default.not-For) (other_kind _ Token.Let (λ v. refl) c.in_default.not-Let) (other_kind _ Token.When (λ v. refl) c.in_default.not-When)
