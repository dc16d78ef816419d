-- `classes::fill` meets its contract: after so many entries those have their classes.
-- Assumes nothing.
use mathlib.Core.Path.{◌≡◌}
use lib.ListN.{length}
use Rattle.classes.proofs.Climbing.{Filling}
use Rattle.classes.proofs.fill.Given as goal

abbrev pub invariant-loop-e : goal.invariant-loop-e
invariant-loop-e l = Filling l.defs l.types l.initial.classes l.classes l.e × (length l.back ≡ length l.initial.back)
