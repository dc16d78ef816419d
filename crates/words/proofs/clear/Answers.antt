-- `words::clear` meets its contract: the library fills. Assumes nothing.
use Rattle.meaning.specs.Base.{zeros}
use Rattle.words.proofs.clear.Goals as goal

pub returns : goal.returns
unfolding zeros
returns c = c.fill.ensures.after (λ y h. h)
