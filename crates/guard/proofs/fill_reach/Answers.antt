-- `guard::fill_reach` meets its contract: the sets below d are those of their entries (`Beginning`). Assumes nothing.
use native.Mathlib.Omega.{arith}
use Rattle.guard.proofs.Beginning.{def_low}
use Rattle.guard.proofs.fill_reach.Goals as goal

pub bounds-masks-from : goal.bounds-masks-from
bounds-masks-from c = omega (arith, c.from.ensures, def_low _ c.loop-d.d c.requires.read c.loop-d-test.true)
