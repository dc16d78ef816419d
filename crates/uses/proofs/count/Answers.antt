-- `uses::count` meets its contract: one use more of one node. Assumes nothing.
use Rattle.meaning.specs.Base.{first}
use Rattle.uses.proofs.Counts.{counted_one}
use Rattle.uses.proofs.count.Goals as goal

pub bounds-counts-from : goal.bounds-counts-from
bounds-counts-from c = rw c.from.ensures (c.requires.inside _ first)

pub bounds-counts-from-2 : goal.bounds-counts-from-2
bounds-counts-from-2 c = rw c.from.ensures (c.requires.inside _ first)

pub returns : goal.returns
returns c = rw c.from.ensures (counted_one _ _ (c.requires.inside _ first))
