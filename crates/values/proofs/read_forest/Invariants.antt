-- `values::read_forest` meets its contract: reading what is pending is reading the whole (`Going`); the measure counts each record twice, and the stretches that are open. Assumes nothing.
use mathlib.Core.Path.{◌≡◌}
use Prim.Native.Nat.{◌+◌, ◌*◌, ◌-◌}
use lib.ListN.{length}
use Rattle.values.proofs.Going.{Going}
use Rattle.values.proofs.read_forest.Given as goal

abbrev pub invariant-loop-depth : goal.invariant-loop-depth
invariant-loop-depth l = Going l.s l.start l.n (length l.initial.work) l.initial.work l.initial.kept l.stack l.work l.depth l.at l.kept × (length l.work ≡ length l.initial.work) × (length l.stack ≡ length l.initial.stack)

abbrev pub decreases-loop-depth : goal.decreases-loop-depth
decreases-loop-depth l = 2 * (l.initial.kept.entries + l.n - l.kept.entries) + l.depth
