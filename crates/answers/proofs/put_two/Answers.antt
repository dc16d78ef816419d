-- `answers::put_two` meets its contract: two fields behind the start.
-- Assumes nothing.
use native.Mathlib.Omega.{arith}
use Rattle.answers.proofs.Extending.{two_put}
use Rattle.answers.proofs.put_two.Goals as goal

pub returns : goal.returns
returns c = two_put _ _ _ c.put_start.ensures c.put_word.ensures c.put_word-2.ensures (omega (arith, c.put_start.auto.answer)) c.put_word.auto.t
