-- `leaves::variable` meets its contract: what stands in the scope for it. Assumes nothing.
use borrow.Author.Rules.{rules}
use Rattle.leaves.proofs.Steps.{variable_stops, variable_walks}
use Rattle.leaves.proofs.variable.Goals as goal

pub returns-in_err-e : goal.returns-in_err-e
returns-in_err-e c = search (rules, variable_stops)

pub returns : goal.returns
returns c = λ D ws cs B. variable_walks c.args.n c.args.v B c.requires c.in_ok-e.ensures c.from.ensures
