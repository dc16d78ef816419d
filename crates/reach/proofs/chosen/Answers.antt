-- `reach::chosen` meets its contract: not marked, or marked and tested. Assumes nothing.
use mathlib.Core.Path.{ap, ◌∙◌}
use Rattle.meaning.specs.Types.{Entry, head_of}
use Rattle.meaning.specs.Reach.{atom_passes}
use Rattle.reach.proofs.Atoms.{chosen_over, chosen_atom}
use Rattle.reach.proofs.chosen.Goals as goal

pub returns-then-unmarked : goal.returns-then-unmarked
returns-then-unmarked c = chosen_over _ _ _ _ c.requires.inside c.if-unmarked.true

pub returns : goal.returns
returns c =
    chosen_atom _ _ _ _ c.requires.inside c.if-unmarked.false (c.atom_passes.ensures ∙ ap (λ (y : Entry). atom_passes c.args.test (head_of y)) c.get.ensures)
