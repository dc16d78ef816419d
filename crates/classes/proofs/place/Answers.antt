-- `classes::place` meets its contract: a name by a climb, any other entry by its parts, which stand before it. Assumes nothing.
use mathlib.Core.Path.{sym, ◌∙◌}
use native.Mathlib.Omega.{arith}
use Rattle.classes.proofs.Words.{no_name, plain_class, parts_before}
use Rattle.classes.proofs.Climbing.{climbed_once}
use Rattle.classes.proofs.place.Goals as goal

pub returns : goal.returns
returns c =
    let p = no_name c.get-x.result (sym c.is_name.ensures ∙ c.if-is_name.false) in
    climbed_once _ _ (omega (arith, c.requires.low, c.requires.place.long)) c.requires.begun.sound
    (plain_class c.requires.place c.requires.low _ c.get-x.ensures p c.word.result (rw c.word.ensures c.from_parts.ensures)
    (parts_before c.requires.place c.requires.low _ c.get-x.ensures p c.requires.begun))
