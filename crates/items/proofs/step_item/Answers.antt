-- `items::step_item` meets its contract.
-- Assumes nothing.
use mathlib.Core.Path.{refl, ap}
use native.Mathlib.Omega.{arith}
use Rattle.tokens.specs.declared.Token.{Token}
use Rattle.tokens.specs.Says.{kind_of}
use Rattle.tokens.proofs.Numbers.{other_kind}
use Rattle.items.proofs.Items.{token_on}
use Rattle.items.proofs.Openings.{child_on, dos_on, step_ends}
use Rattle.items.proofs.step_item.Goals as goal

pub test_item-requires-clause-inside : goal.test_item-requires-clause-inside
test_item-requires-clause-inside c = (token_on _ _ c.token_at-t.ensures refl c.requires.inside (omega (arith, ap kind_of c.in-Slash.is))).1

pub test_item-requires-in-Slashes-clause-inside : goal.test_item-requires-in-Slashes-clause-inside
test_item-requires-in-Slashes-clause-inside c = (token_on _ _ c.token_at-t.ensures refl c.requires.inside (omega (arith, ap kind_of c.in-Slashes.is))).1

pub returns-in-Slash : goal.returns-in-Slash
returns-in-Slash c = child_on _ _ _ c.token_at-t.ensures refl (ap kind_of c.in-Slash.is) c.requires.inside c.test_item.ensures

pub returns-in-Slashes : goal.returns-in-Slashes
returns-in-Slashes c = dos_on _ _ _ c.token_at-t.ensures refl (ap kind_of c.in-Slashes.is) c.requires.inside c.test_item-in-Slashes.ensures

pub returns-in_default : goal.returns-in_default
returns-in_default c = step_ends _ _ _ c.token_at-t.ensures refl (other_kind _ Token.Slash (λ v. refl) c.in_default.not-Slash) (other_kind _ Token.Slashes (λ v. refl) c.in_default.not-Slashes) c.requires.inside c.made.ensures
