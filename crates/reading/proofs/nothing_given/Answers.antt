-- `reading::nothing_given` meets its contract: arrays of zeros. Assumes nothing.
use mathlib.Core.Path.{refl}
use Rattle.meaning.specs.Base.{zeros}
use Rattle.reading.proofs.nothing_given.Goals as goal

pub returns : goal.returns
unfolding zeros
returns c = refl
