-- `walks::walk` meets its contract: what is left to do, at the entry or with the answer that it has come to, is the whole (`Going`).
-- Assumes nothing.
use lib.ListN.{length}
use Rattle.walks.proofs.Going.{Going, left}
use Rattle.walks.proofs.walk.Given as goal

abbrev pub invariant-loop-next : goal.invariant-loop-next
invariant-loop-next l =
    Going (record { mode = l.mode; node = l.node; defs = l.defs; types = l.initial.types; classes = l.initial.classes; count = l.count; start = l.e; deep = length l.initial.stack })
    l.types l.classes l.stack l.n l.next

abbrev pub decreases-loop-next : goal.decreases-loop-next
decreases-loop-next l =
    left (record { mode = l.mode; node = l.node; defs = l.defs; types = l.initial.types; classes = l.initial.classes; count = l.count; start = l.e; deep = length l.initial.stack })
    l.stack l.next
