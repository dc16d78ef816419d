-- `records::value_form` meets its contract: each kind by its row of the grammar, any other because it has none of this section.
-- Assumes nothing.
use mathlib.Core.Path.{refl}
use Rattle.meaning.specs.Base.{find}
use Rattle.meaning.specs.Records.{forms}
use Rattle.records.proofs.Arms.{a_value, no_value}
use Rattle.records.proofs.value_form.Goals as goal

pub returns-in-64 : goal.returns-in-64
unfolding find forms
returns-in-64 c = a_value 64 c.one.ensures refl c.in-64.is

pub returns-in-65 : goal.returns-in-65
unfolding find forms
returns-in-65 c = a_value 65 c.two.ensures refl c.in-65.is

pub returns-in-66 : goal.returns-in-66
unfolding find forms
returns-in-66 c = a_value 66 c.two-in-66.ensures refl c.in-66.is

pub returns-in_default : goal.returns-in_default
returns-in_default c =
    no_value c.in_default.in_default-own.rest.0.0.1 c.in_default.in_default-own.rest.0.1 c.in_default.in_default-own.rest.1
