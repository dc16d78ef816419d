-- `dos::unite` meets its contract: the unions left to make from here are the whole (`Uniting`). Assumes nothing.
use Prim.Native.Nat.{◌-◌}
use Rattle.meaning.specs.Types.{Defs}
use Rattle.words.specs.Tables.{table_of}
use Rattle.reach.specs.Marks.{marks_of}
use Rattle.reach.specs.Atoms.{picked}
use Rattle.grow.specs.Grow.{Ready}
use Rattle.dos.proofs.Uniting.{Uniting}
use Rattle.dos.proofs.unite.Given as goal

abbrev pub invariant-loop-y : goal.invariant-loop-y
invariant-loop-y l =
    (D : Defs) → Ready D l.initial.types l.initial.classes l.count → Uniting D l.initial.types l.initial.classes l.count (picked l.test (table_of l.initial.types l.count) (marks_of l.count l.marks)) l.node l.x l.types l.classes l.made.at l.made.count l.i

abbrev pub decreases-loop-y : goal.decreases-loop-y
decreases-loop-y l = l.count - l.i
