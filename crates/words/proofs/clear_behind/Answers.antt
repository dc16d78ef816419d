-- `words::clear_behind` meets its contract: the library fills a part at the back. Assumes nothing.
use mathlib.Core.Path.{refl}
use Rattle.meaning.specs.Base.{zeros}
use Rattle.words.proofs.Stores.{cleared_back}
use Rattle.words.proofs.clear_behind.Goals as goal

pub returns : goal.returns
unfolding zeros
returns c = cleared_back _ _ _ c.requires refl (c.fill.ensures.after (λ y h. h))
