-- `guard::fill_masks` meets its contract: the sets below e are their entries' (`Filling`). Assumes nothing.
use mathlib.Core.Path.{refl, sym}
use Rattle.guard.proofs.Owning.{low_inside}
use Rattle.guard.proofs.Filling.{filling_low, filling_more, filling_all}
use native.Mathlib.Omega.{arith}
use Rattle.guard.proofs.fill_masks.Goals as goal

pub own_set-requires : goal.own_set-requires
own_set-requires c =
    low_inside (filling_low refl c.requires.laid c.loop-e.invariant c.requires.room (omega (arith, c.len-e-end.ensures)) (sym c.get.ensures))

pub loop-e-preserved : goal.loop-e-preserved
loop-e-preserved c =
    filling_more refl c.requires.laid c.loop-e.invariant c.requires.room (omega (arith, c.len-e-end.ensures)) (sym c.get.ensures) c.own_set.ensures

pub returns : goal.returns
returns c =
    filling_all refl c.requires.laid c.loop-e.invariant (omega (arith, c.len-e-end.ensures))
