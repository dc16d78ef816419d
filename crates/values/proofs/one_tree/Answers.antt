-- `values::one_tree` meets its contract: no record, none that is right, or the first. Assumes nothing.
use Rattle.values.proofs.Singles.{single_none, single_wrong, single_there}
use Rattle.values.proofs.one_tree.Goals as goal

pub returns-then-n-eq0 : goal.returns-then-n-eq0
returns-then-n-eq0 c = single_none _ _ _ c.if-n-eq0.true

pub returns-in_default : goal.returns-in_default
returns-in_default c = single_wrong _ _ _ c.if-n-eq0.false c.in_default.ensures

pub returns : goal.returns
returns c = single_there _ _ _ c.if-n-eq0.false c.in-Ok.ensures
