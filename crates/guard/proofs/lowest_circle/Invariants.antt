-- `guard::lowest_circle` meets its contract: the lowest from here on is the lowest (`Seeking`). Assumes nothing.
use lib.ListN.{length}
use Rattle.meaning.proofs.Searches.{Seeking}
use Rattle.guard.specs.Sets.{bit_at}
use Rattle.guard.proofs.lowest_circle.Given as goal

abbrev pub invariant-loop-d : goal.invariant-loop-d
invariant-loop-d l = Seeking (λ i. bit_at l.reach i i) (length l.reach) l.d
