-- `leaves::child` meets its contract: the tree variable's entry, then the rule for it. Assumes nothing.
use borrow.Author.Rules.{rules}
use native.Mathlib.Omega.{arith}
use Rattle.leaves.proofs.Steps.{tree_low, child_stops, child_walks}
use Rattle.leaves.proofs.child.Goals as goal

pub returns-in_err-e : goal.returns-in_err-e
returns-in_err-e c = search (rules, child_stops)

pub child_rule-requires-clause-ready : goal.child_rule-requires-clause-ready
child_rule-requires-clause-ready c =
    let low = tree_low c.args.n c.args.v c.requires.begins c.requires.low c.in_ok-e.ensures in
    (c.requires.begins.ready, omega (arith, c.from-at.ensures, low))

pub returns : goal.returns
returns c =
    child_walks c.args.count c.args.n c.args.v c.args.test c.in_ok-e.ensures c.from-at.ensures c.child_rule.ensures
