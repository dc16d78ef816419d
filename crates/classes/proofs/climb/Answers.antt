-- `classes::climb` meets its contract. The invariant is where the climb has come to.
-- Assumes nothing.
use native.Mathlib.Omega.{arith}
use lib.ListN.{length-set}
use Rattle.classes.proofs.Climbing.{climbing_start, climbing_on, climbing_less}
use Rattle.classes.proofs.climb.Goals as goal

pub overflow_cast-back : goal.overflow_cast-back
overflow_cast-back c =
    omega (arith, c.requires.low, c.requires.place.formed.few)

pub loop-classes-init : goal.loop-classes-init
loop-classes-init c =
    climbing_start _ _ c.args.classes.now c.args.back.now c.args.e c.requires.low c.requires.ways c.requires.sound

pub loop-classes-smaller : goal.loop-classes-smaller
loop-classes-smaller c =
    climbing_less _ _ c.requires.place.formed c.loop-classes.invariant c.loop-classes-test.true (omega (arith, c.loop-classes.invariant.long, c.requires.place.long)) (omega (arith, c.loop-classes.invariant.ways, c.requires.ways, length-set c.args.back.now c.args.e c.args.e)) c.step-at.ensures

pub loop-classes-preserved : goal.loop-classes-preserved
loop-classes-preserved c =
    climbing_on _ _ c.requires.place.formed c.loop-classes.invariant c.loop-classes-test.true (omega (arith, c.loop-classes.invariant.long, c.requires.place.long)) (omega (arith, c.loop-classes.invariant.ways, c.requires.ways, length-set c.args.back.now c.args.e c.args.e)) c.step-at.ensures

pub step-at-requires-clause-low : goal.step-at-requires-clause-low
step-at-requires-clause-low c = c.loop-classes.invariant.low
