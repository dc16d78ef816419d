-- `values::Kept::keep` meets its contract: there is room, or there is none. Assumes nothing.
use Rattle.values.proofs.Keeping.{keeps_one, keeps_none}
use Rattle.values.proofs.Kept.keep.Goals as goal

pub returns-then-e-self : goal.returns-then-e-self
returns-then-e-self c =
    keeps_one c.args.x _ c.requires.long c.if-e-self.true c.put_entry.ensures

pub returns-else-e-self : goal.returns-else-e-self
returns-else-e-self c = keeps_none c.args.x _ c.requires.long c.if-e-self.false c.or-self.ensures
