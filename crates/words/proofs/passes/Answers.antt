-- `words::passes` meets its contract.
-- Assumes nothing.
use mathlib.Core.Path.{refl}
use Rattle.words.proofs.Tests.{passes_all, passes_text, passes_label}
use Rattle.words.proofs.passes.Goals as goal

pub returns-in-0 : goal.returns-in-0
returns-in-0 c = passes_all _ _ c.in-0.is

pub returns-in-Text : goal.returns-in-Text
returns-in-Text c = passes_text _ _ _ c.in-65535.is (rw c.in-Text.is refl)

pub returns-in-Label : goal.returns-in-Label
returns-in-Label c = passes_label _ _ _ c.in-1-to-65534.in-1-to-65534-own.rest.0.1 c.in-1-to-65534.in-1-to-65534-own.rest.1 (rw c.in-Label.is refl)

pub returns-in-Text-head : goal.returns-in-Text-head
returns-in-Text-head c = passes_label _ _ _ c.in-1-to-65534.in-1-to-65534-own.rest.0.1 c.in-1-to-65534.in-1-to-65534-own.rest.1 (rw c.in-Text-head.is refl)

pub returns-in_default : goal.returns-in_default
returns-in_default c = passes_text _ _ _ c.in-65535.is (rw c.in_default.is refl)
