-- `sections::write` meets its contract: the length is the section's, and the buffer holds it with zeros after it, or zeros.
-- Assumes nothing.
use Rattle.meaning.specs.Base.{zeros}
use Rattle.sections.proofs.Turns.{left_written, left_short}
use Rattle.sections.proofs.write.Goals as goal

pub returns-then-out-needed : goal.returns-then-out-needed
unfolding zeros
returns-then-out-needed c = left_short _ _ c.size_all-needed.ensures c.if-out-needed.true (c.fill.ensures.after (λ y h. h))

pub returns : goal.returns
returns c = left_written _ _ c.size_all-needed.ensures c.if-out-needed.false c.put_all.ensures c.put_all.auto.out c.clear_bytes.ensures
