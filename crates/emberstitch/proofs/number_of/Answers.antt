-- `emberstitch::number_of` meets its contract: a refusal's number and its place fit 64 bits. Assumes nothing.
use mathlib.Core.Path.{subst}
use Rattle.emberstitch.specs.Promises.{Small}
use borrow.Author.Rules.{rules}
use Rattle.emberstitch.proofs.number_of.Goals as goal

pub overflow_add-result : goal.overflow_add-result
overflow_add-result c =
    let small = subst Small c.in-Err.is c.requires in
    search (rules, small)
