-- `records::item_at` meets its contract: the tests in the order of the refusals, each by its law.
-- Assumes nothing.
use mathlib.Core.Path.{◌∙◌}
use Rattle.records.proofs.Found.{misfit, past, whole}
use Rattle.records.proofs.item_at.Goals as goal

pub returns-then-from-length : goal.returns-then-from-length
returns-then-from-length c = record { stands = λ file e o. misfit file _ _ _ c.requires _ e o _ (c.from.ensures ∙ c.word.ensures) c.if-from-length.true }

pub returns-then-s-at : goal.returns-then-s-at
returns-then-s-at c = record { stands = λ file e o. past file _ _ _ c.requires _ e o _ (c.from.ensures ∙ c.word.ensures) c.if-from-length.false c.if-s-at.true }

pub returns : goal.returns
returns c =
    record {
      stands = λ file e o. whole file _ _ _ c.requires _ e o _ _ _ _ (c.from.ensures ∙ c.word.ensures) c.if-from-length.false c.if-s-at.false c.field_at-a.ensures c.field_at-b.ensures c.field_at-c.ensures;
    }
