-- `uses::has_root` meets its contract: no node, or the last node's kind. Assumes nothing.
use Rattle.uses.proofs.Counting.{root_none, root_last}
use Rattle.uses.proofs.has_root.Goals as goal

pub returns-then-nodes-eq0 : goal.returns-then-nodes-eq0
returns-then-nodes-eq0 c = root_none _ c.len-nodes.ensures c.if-nodes-eq0.true

pub returns : goal.returns
returns c =
    root_last _ c.get-root.result c.is_condition.result c.len-nodes.ensures c.if-nodes-eq0.false c.get-root.ensures c.is_condition.ensures
