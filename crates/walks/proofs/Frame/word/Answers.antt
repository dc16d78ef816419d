-- `walks::Frame::word` meets its contract: the word says the frame.
-- Assumes nothing.
use Rattle.walks.proofs.Stack.{says_half, says_alone, says_joined}
use Rattle.walks.proofs.Frame.word.Goals as goal

pub returns-in-Half : goal.returns-in-Half
returns-in-Half c = let fit = rw c.in-Half.is at c.requires in rw c.in-Half.is (says_half _ _ fit.1 fit.0)

pub returns-in-Alone : goal.returns-in-Alone
returns-in-Alone c = let fit = rw c.in-Alone.is at c.requires in rw c.in-Alone.is (says_alone _ fit.0 fit.1)

pub returns-in-Joined : goal.returns-in-Joined
returns-in-Joined c = let fit = rw c.in-Joined.is at c.requires in rw c.in-Joined.is (says_joined _ _ fit.2 fit.0)
