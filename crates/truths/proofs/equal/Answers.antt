-- `truths::equal` meets its contract.
-- Assumes nothing.
use Rattle.truths.proofs.Telling.{tells_equal}
use Rattle.truths.proofs.equal.Goals as goal

pub returns : goal.returns
returns c =
    tells_equal c.requires.places c.requires.left c.from.ensures c.lookup-left.ensures c.of.ensures c.requires.right c.from-2.ensures c.lookup-right.ensures c.of-2.ensures c.same.ensures
