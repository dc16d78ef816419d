-- `parts::expand` meets its contract: the parts of what stands at the node.
-- Assumes nothing.
use Rattle.std.proofs.Common.{subst}
use Rattle.meaning.specs.Queries as Queries
use Rattle.parts.specs.Items as Items
use Rattle.parts.specs.Stacks.{Grown}
use Rattle.parts.proofs.Nodes.{cond_here, query_here}
use Rattle.parts.proofs.expand.Goals as goal

pub returns-in-Query : goal.returns-in-Query
returns-in-Query c =
    let C = c.args.code.now in
    let low = rw c.in-Query.is at c.requires.node in
    rw c.in-Query.is
    (subst (λ (q : Queries.Query). Grown C c.args.stack.now c.args.top c.push_query.new.stack c.push_query.result (Items.of_query c.in-Query.many c.args.deep q))
    (query_here c.requires.lowers low c.from.ensures c.read_query-query.ensures)
    (c.push_query.ensures C c.in-Query.q))

pub returns-in-Cond : goal.returns-in-Cond
returns-in-Cond c =
    let C = c.args.code.now in
    let low = rw c.in-Cond.is at c.requires.node in
    rw c.in-Cond.is
    (subst (λ (p : Queries.Cond). Grown C c.args.stack.now c.args.top c.push_cond.new.stack c.push_cond.result (Items.of_cond c.args.deep p))
    (cond_here c.requires.lowers low c.from-in-Cond.ensures c.read_cond-cond.ensures)
    (c.push_cond.ensures C c.in-Cond.p))
