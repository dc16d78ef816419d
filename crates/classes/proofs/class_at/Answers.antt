-- `classes::class_at` meets its contract: a name has its definition's class, any other entry that of its parts.
-- Assumes nothing.
use mathlib.Core.Path.{ap, ◌∙◌}
use native.Mathlib.Omega.{arith}
use Rattle.entries.specs.Says.{shown}
use Rattle.classes.proofs.Words.{plain_class, name_low, name_class}
use Rattle.classes.proofs.class_at.Goals as goal

pub bounds-defs-from : goal.bounds-defs-from
bounds-defs-from c =
    omega (arith, c.from.ensures, name_low c.requires.place c.requires.low _ c.get-x.ensures c.in-Name.d (ap shown c.in-Name.is))

pub returns-in-Name : goal.returns-in-Name
returns-in-Name c =
    name_class c.requires.place c.requires.low _ c.get-x.ensures c.in-Name.d c.in-Name.is c.part.result
    (c.part.ensures ∙ rw c.from.ensures)

pub returns : goal.returns
returns c =
    plain_class c.requires.place c.requires.low _ c.get-x.ensures c.in_default.not-Name c.word.result (rw c.word.ensures c.from_parts.ensures)
