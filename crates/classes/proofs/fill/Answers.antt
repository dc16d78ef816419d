-- `classes::fill` meets its contract: after so many entries those have their classes.
-- Assumes nothing.
use mathlib.Core.Path.{refl, sym, ◌∙◌}
use native.Mathlib.Omega.{arith}
use Rattle.classes.proofs.Climbing.{filling_start, filling_on, filling_end}
use Rattle.classes.proofs.fill.Goals as goal

pub loop-e-init : goal.loop-e-init
loop-e-init c =
    (filling_start _ _ c.args.classes.now c.clear.new.t c.len-count.result (sym c.len-count.ensures) (omega (arith, c.requires.place.long, c.len-count.ensures)) c.clear.ensures, refl)

pub loop-e-preserved : goal.loop-e-preserved
loop-e-preserved c =
    (filling_on _ _ c.loop-e.invariant.0 (omega (arith, c.loop-e-test.true, c.len-count.ensures)) c.place.auto.classes c.place.ensures, c.place.auto.back ∙ c.loop-e.invariant.1)

pub returns : goal.returns
returns c =
    filling_end _ _ c.loop-e.invariant.0 (omega (arith, c.loop-e-test.false, c.len-count.ensures))
