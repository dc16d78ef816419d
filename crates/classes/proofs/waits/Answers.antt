-- `classes::waits` meets its contract: what stands in each kind of entry. Assumes nothing.
use mathlib.Core.Path.{ap}
use mathlib.Core.Logic.{inl, inr}
use native.Mathlib.Omega.{arith}
use Rattle.entries.specs.Says.{shown}
use Rattle.meaning.specs.Reach.{steps_of}
use Rattle.classes.proofs.Lacking.{lacks_none}
use Rattle.classes.proofs.waits.Goals as goal

pub bounds-defs-from : goal.bounds-defs-from
bounds-defs-from c = omega (arith, c.from.ensures, c.requires _ (ap shown c.in-Name.is))

pub returns-in-Empty : goal.returns-in-Empty
unfolding steps_of
returns-in-Empty c = elim c.in-Empty.is [ inl p ↦ rw p lacks_none | inr q ↦ elim q [ inl p ↦ rw p lacks_none | inr p ↦ rw p.2 lacks_none ] ]
