-- `acts::prime_act` meets its contract: a name's definition is there.
-- Assumes nothing.
use mathlib.Core.Path.{ap}
use native.Mathlib.Omega.{arith}
use Rattle.entries.specs.Says.{shown}
use Rattle.acts.proofs.prime_act.Goals as goal

pub bounds-defs-from : goal.bounds-defs-from
bounds-defs-from c = omega (arith, c.from.ensures, c.requires _ (ap shown c.in-Name.is))
