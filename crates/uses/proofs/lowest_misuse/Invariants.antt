-- `uses::lowest_misuse` meets its contract: the lowest from here on is the lowest (`Seeking`). Assumes nothing.
use mathlib.Core.Bool.{not}
use lib.Dec.{eqb}
use lib.ListN.{get_or}
use Rattle.meaning.proofs.Searches.{Seeking}
use Rattle.uses.proofs.lowest_misuse.Given as goal

abbrev pub invariant-loop-q : goal.invariant-loop-q
invariant-loop-q l = Seeking (λ i. not (eqb (get_or l.counts i 0) 1)) l.nodes l.q
