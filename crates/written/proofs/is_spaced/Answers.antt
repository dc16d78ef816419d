-- `written::is_spaced` meets its contract.
-- Assumes nothing.
use Rattle.written.proofs.is_spaced.Goals as goal

pub returns-else-wide : goal.returns-else-wide
returns-else-wide c = λ v. rw (c.in-Some.is, c.if-wide.false) (c.is_wide.ensures v)
