-- `parses::read_items` meets its contract.
-- Assumes nothing.
use native.Mathlib.Omega.{arith}
use Rattle.parses.proofs.Looping.{begins}
use Rattle.parses.proofs.read_items.Goals as goal

pub run-requires-clause-begun : goal.run-requires-clause-begun
run-requires-clause-begun c = begins _ _ _ (omega (arith, c.requires.stack_room))
