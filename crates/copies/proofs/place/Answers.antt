-- `copies::place` meets its contract.
-- Assumes nothing.
use Rattle.copies.proofs.Filling.{filled_stored}
use Rattle.copies.specs.Fills.{done, full}
use Rattle.meaning.proofs.Forests.{length_words}
use lib.ListN.{length}
use mathlib.Core.Path.{refl, ap}
use native.Mathlib.Omega.{arith}
use Rattle.copies.proofs.place.Goals as goal

pub returns-then-rest-forest : goal.returns-then-rest-forest
returns-then-rest-forest c = λ f e. full {f = f} (omega (arith, c.if-rest-forest.true, ap length e, length_words f))

pub returns : goal.returns
returns c = λ f e. done (filled_stored f e c.requires (omega (arith, c.if-rest-forest.false)) refl c.copy.ensures)
