-- `truths::empty` meets its contract.
-- Assumes nothing.
use Rattle.truths.proofs.Telling.{tells_empty}
use Rattle.truths.proofs.empty.Goals as goal

pub returns : goal.returns
returns c = λ held places. tells_empty places c.requires c.from.ensures c.lookup-trees.ensures
