-- `uses::count_all` meets its contract: so many nodes' uses have been counted (`Counting`). Assumes nothing.
use Rattle.uses.proofs.Counting.{Counting}
use Rattle.uses.proofs.count_all.Given as goal

abbrev pub invariant-loop-i : goal.invariant-loop-i
invariant-loop-i l = Counting l.code l.initial.counts l.counts l.i
