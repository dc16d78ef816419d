-- `classes::step` meets its contract: down to a part, or back with a class. Assumes nothing.
use native.Mathlib.Omega.{arith}
use Rattle.classes.proofs.Words.{name_low}
use Rattle.classes.proofs.Lacking.{part_low, stepped_down, stepped_back}
use Rattle.classes.proofs.step.Goals as goal

pub waits-requires : goal.waits-requires
waits-requires c =
    name_low c.requires.place c.requires.low _ c.get.ensures

pub overflow_cast-back : goal.overflow_cast-back
overflow_cast-back c =
    omega (arith, c.requires.low, c.requires.place.formed.few)

pub bounds-back-next : goal.bounds-back-next
bounds-back-next c =
    omega (arith, c.from-next.ensures, c.requires.ways, part_low c.requires.place c.requires.low _ c.get.ensures c.waits.ensures c.in-Some.is)

pub returns-in-None : goal.returns-in-None
returns-in-None c =
    stepped_back c.requires.place c.requires.low _ c.get.ensures c.waits.ensures c.in-None.is c.class_at.ensures c.from.ensures

pub returns-in-Some : goal.returns-in-Some
returns-in-Some c =
    stepped_down c.requires.place c.requires.low _ c.get.ensures c.waits.ensures c.in-Some.is c.from-next.ensures
