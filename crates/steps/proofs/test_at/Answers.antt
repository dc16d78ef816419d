-- `steps::test_at` meets its contract.
-- Assumes nothing.
use mathlib.Core.Path.{refl, ap}
use Rattle.tokens.specs.declared.Token.{Token}
use Rattle.tokens.specs.Says.{kind_of}
use Rattle.tokens.proofs.Numbers.{other_kind}
use Rattle.steps.proofs.Expecting.{test_node, test_text, test_number}
use Rattle.steps.proofs.test_at.Goals as goal

pub returns-in-Node : goal.returns-in-Node
returns-in-Node c =
    test_node _ _ c.token_at-t.ensures refl (ap kind_of c.in-Node.is) c.requires

pub returns-in-Text : goal.returns-in-Text
returns-in-Text c =
    test_text _ _ c.token_at-t.ensures refl (ap kind_of c.in-Text.is) c.requires

pub returns-in_default : goal.returns-in_default
returns-in_default c =
    test_number _ _ c.token_at-t.ensures refl (other_kind _ Token.Node (λ v. refl) c.in_default.not-Node) (other_kind _ Token.Text (λ v. refl) c.in_default.not-Text) c.number_in.ensures
