-- `picks::text` meets its contract.
-- Assumes nothing.
use Rattle.meaning.specs.Forests.{end, leaf, forest_words}
use mathlib.Core.Path.{refl}
use Rattle.picks.proofs.text.Goals as goal

pub returns : goal.returns
unfolding forest_words
returns c =
    c.place.ensures (leaf c.args.t end) refl
