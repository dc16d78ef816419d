-- `atoms::mark_atoms` meets its contract: so many entries have their marks (`Marking`). Assumes nothing.
use native.Mathlib.Omega.{arith}
use Rattle.atoms.proofs.Marking.{marking_none, marking_more, marking_all, parts_inside}
use borrow.Author.Rules.{rules}
use Rattle.atoms.proofs.mark_atoms.Goals as goal

pub loop-e-init : goal.loop-e-init
loop-e-init c = marking_none _ _

pub has_only_atoms-requires : goal.has_only_atoms-requires
has_only_atoms-requires c =
    parts_inside _ _ c.requires.typed c.get.ensures (omega (arith, c.len-e-end.ensures)) (search rules)

pub loop-e-preserved : goal.loop-e-preserved
loop-e-preserved c =
    marking_more _ c.has_only_atoms.result c.loop-e.invariant (omega (arith, c.len-e-end.ensures)) c.requires.room c.get.ensures c.has_only_atoms.ensures

pub returns : goal.returns
returns c = marking_all c.loop-e.invariant (omega (arith, c.len-e-end.ensures))
