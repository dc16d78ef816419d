-- `copies::stride` meets its contract.
-- Assumes nothing.
use Rattle.copies.specs.Fills.{stride_of}
use Rattle.copies.proofs.stride.Goals as goal

pub returns-then-deep : goal.returns-then-deep
unfolding stride_of
returns-then-deep c = rw c.if-deep.true

pub returns-else-deep : goal.returns-else-deep
unfolding stride_of
returns-else-deep c = rw c.if-deep.false
