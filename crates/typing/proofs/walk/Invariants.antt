-- `typing::walk` meets its contract: what is left to do, at the node or with the answer that it has come to, is the whole (`Going`).
-- Assumes nothing.
use lib.ListN.{length}
use Rattle.typing.proofs.Going.{Going, left}
use Rattle.typing.proofs.walk.Given as goal

abbrev pub invariant-loop-next : goal.invariant-loop-next
invariant-loop-next l =
    Going (record { defs = l.defs; code = l.code; types = l.initial.types; classes = l.initial.classes; count = l.count; scope = l.initial.scope; start = l.n; marked = length l.initial.marks; deep = length l.initial.stack })
    l.types l.classes l.marks l.stack l.scope l.next

abbrev pub decreases-loop-next : goal.decreases-loop-next
decreases-loop-next l =
    left (record { defs = l.defs; code = l.code; types = l.initial.types; classes = l.initial.classes; count = l.count; scope = l.initial.scope; start = l.n; marked = length l.initial.marks; deep = length l.initial.stack })
    l.stack l.next
