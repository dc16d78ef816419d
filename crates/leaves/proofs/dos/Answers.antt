-- `leaves::dos` meets its contract: the tree variable's entry, then the rule for it. Assumes nothing.
use borrow.Author.Rules.{rules}
use native.Mathlib.Omega.{arith}
use Rattle.reach.proofs.Steps.{given_exact}
use Rattle.leaves.proofs.Steps.{tree_low, dos_stops, dos_walks}
use Rattle.leaves.proofs.dos.Goals as goal

pub returns-in_err-e : goal.returns-in_err-e
returns-in_err-e c = search (rules, dos_stops)

pub dos_rule-requires-clause-ready : goal.dos_rule-requires-clause-ready
dos_rule-requires-clause-ready c =
    let R = c.requires.begins.ready in
    (c.args.defs.now, R, given_exact R.formed)

pub dos_rule-requires-clause-low : goal.dos_rule-requires-clause-low
dos_rule-requires-clause-low c =
    let low = tree_low c.args.n c.args.v c.requires.begins c.requires.low c.in_ok-e.ensures in
    omega (arith, c.from-at.ensures, low)

pub returns : goal.returns
returns c =
    let R = c.requires.begins.ready in
    dos_walks c.args.count c.args.n c.args.v c.args.test c.in_ok-e.ensures c.from-at.ensures (c.dos_rule.ensures _ R (given_exact R.formed))
