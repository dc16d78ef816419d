-- `classes::class_of` meets its contract: what stands in an appended entry stands before it.
-- Assumes nothing.
use mathlib.Core.Path.{◌∙◌}
use Rattle.classes.proofs.Laws.{class_appended}
use Rattle.classes.proofs.class_of.Goals as goal

pub returns : goal.returns
returns c =
    λ D T F f l p m. c.word.ensures ∙ class_appended D T F _ f _ l p m _ (rw c.of_kind.ensures at c.from_parts.ensures)
