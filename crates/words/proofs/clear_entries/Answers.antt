-- `words::clear_entries` meets its contract: the library fills a part at the front. Assumes nothing.
use native.Mathlib.Omega.{arith}
use Rattle.meaning.specs.Base.{zeros}
use Rattle.words.proofs.Stores.{cleared_front}
use Rattle.words.proofs.clear_entries.Goals as goal

pub returns : goal.returns
unfolding zeros
returns c = cleared_front _ _ (omega (arith, c.requires)) (c.fill.ensures.after (λ y h. h))
