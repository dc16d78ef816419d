-- `steps::expect` meets its contract: a token's kind is its number.
-- Assumes nothing.
use Rattle.steps.proofs.expect.Goals as goal

pub expect_kind-requires-clause-not_end : goal.expect_kind-requires-clause-not_end
expect_kind-requires-clause-not_end c = rw c.kind_of.ensures c.requires.not_end

pub returns : goal.returns
returns c = rw c.kind_of.ensures at c.expect_kind.ensures
