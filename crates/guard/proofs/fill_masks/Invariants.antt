-- `guard::fill_masks` meets its contract: the sets below e are their entries' (`Filling`). Assumes nothing.
use lib.ListN.{length}
use Rattle.guard.proofs.Filling.{Filling}
use Rattle.guard.proofs.fill_masks.Given as goal

abbrev pub invariant-loop-e : goal.invariant-loop-e
invariant-loop-e l = Filling l.types (length l.types) l.initial.masks l.masks l.e
