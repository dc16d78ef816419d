-- `answers::put_one` meets its contract: a field behind the start.
-- Assumes nothing.
use native.Mathlib.Omega.{arith}
use Rattle.answers.proofs.Extending.{one_put}
use Rattle.answers.proofs.put_one.Goals as goal

pub returns : goal.returns
returns c = one_put _ _ c.put_start.ensures c.put_word.ensures (omega (arith, c.put_start.auto.answer))
