-- `guard::undefined_name` meets its contract: the lowest from here on is the lowest (`Seeking`). Assumes nothing.
use lib.ListN.{length}
use Rattle.meaning.specs.Checks.{undefined_name}
use Rattle.meaning.proofs.Searches.{Seeking}
use Rattle.guard.proofs.undefined_name.Given as goal

abbrev pub invariant-loop-i : goal.invariant-loop-i
invariant-loop-i l = Seeking (undefined_name l.defs l.types) (length l.types) l.i
