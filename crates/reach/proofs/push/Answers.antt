-- `reach::push` meets its contract: an entry that has a mark, and one that has none. Assumes nothing.
use mathlib.Core.Path.{refl}
use lib.ListN.{length-set}
use Rattle.reach.proofs.Pushing.{grew_new, push_room}
use native.Mathlib.Omega.{arith}
use Rattle.reach.proofs.push.Goals as goal

pub bounds-marks-last : goal.bounds-marks-last
bounds-marks-last c =
    omega (arith, push_room c.requires.low c.requires.room c.if-marks-e-ne0.false, length-set c.args.marks.now c.args.e 1, c.requires.room.long)

pub returns : goal.returns
returns c =
    grew_new c.requires.low c.requires.room c.if-marks-e-ne0.false refl
