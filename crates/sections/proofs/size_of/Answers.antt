-- `sections::size_of` meets its contract.
-- Assumes nothing.
use Rattle.sections.proofs.Fields.{size_known, size_unknown}
use Rattle.sections.proofs.size_of.Goals as goal

pub returns-in-Some : goal.returns-in-Some
returns-in-Some c = size_known _ c.in-Some.ensures

pub returns-in-None : goal.returns-in-None
returns-in-None c = size_unknown c.in-None.ensures
