-- `values::settle` meets its contract: there is nothing to refuse and the work table is cleared behind the values, or all of it is. Assumes nothing.
use mathlib.Core.Path.{refl}
use borrow.Author.Rules.{rules}
use Rattle.values.proofs.Settling.{stays, goes}
use Rattle.values.proofs.settle.Goals as goal

pub returns-in-Ok : goal.returns-in-Ok
returns-in-Ok c = stays _ c.in-Ok.ensures refl (search rules)

pub returns-in-Err : goal.returns-in-Err
returns-in-Err c = goes _ c.in-Err.ensures c.clear.ensures
