-- `walks::filter` meets its contract.
-- Assumes nothing.
use Rattle.grow.proofs.Steps.{left_here}
use Rattle.walks.proofs.Filters.{filter_all, filter_some}
use Rattle.walks.proofs.filter.Goals as goal

pub returns-then-passes_all : goal.returns-then-passes_all
returns-then-passes_all c =
    rw (filter_all _ _ _ _ _ c.if-passes_all.true) (left_here c.requires.ready.0 c.requires.ready.1)

pub returns : goal.returns
returns c =
    rw (filter_some _ _ _ _ _ c.if-passes_all.false) c.walk.ensures
