-- `words::clear_bytes` meets its contract: the library fills what is behind the place, if anything is. Assumes nothing.
use Rattle.meaning.specs.Base.{zeros}
use Rattle.words.proofs.Stores.{cleared_from}
use Rattle.words.proofs.clear_bytes.Goals as goal

pub returns : goal.returns
unfolding zeros
returns c = cleared_from _ _ c.min-start.ensures (c.fill.ensures.after (λ y h. h))
