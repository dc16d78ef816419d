-- `answers::put_start` meets its contract: two words, one behind the other.
-- Assumes nothing.
use Rattle.answers.proofs.Extending.{start_put}
use Rattle.answers.proofs.put_start.Goals as goal

pub returns : goal.returns
returns c = start_put _ _ c.put_word.ensures c.put_word-2.ensures c.requires c.put_word.auto.t
