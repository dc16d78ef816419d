-- `parts::opens` meets its contract: whether what stands at the node opens.
-- Assumes nothing.
use Rattle.std.proofs.Common.{ap, ◌∙◌}
use Rattle.parts.specs.Items as Items
use Rattle.parts.proofs.Nodes.{cond_here, query_here}
use Rattle.parts.proofs.opens.Goals as goal

pub returns-in-Query : goal.returns-in-Query
returns-in-Query c =
    let low = rw c.in-Query.is at c.requires.node in
    rw c.in-Query.is
    (c.query_opens.ensures c.args.code.now c.in-Query.q ∙ ap (Items.query_opens c.in-Query.many) (query_here c.requires.lowers low c.from.ensures c.read_query.ensures))

pub returns-in-Cond : goal.returns-in-Cond
returns-in-Cond c =
    let low = rw c.in-Cond.is at c.requires.node in
    rw c.in-Cond.is
    (c.cond_opens.ensures c.args.code.now c.in-Cond.p ∙ ap Items.cond_opens (cond_here c.requires.lowers low c.from-in-Cond.ensures c.read_cond.ensures))
