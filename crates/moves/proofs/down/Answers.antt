-- `moves::down` meets its contract.
-- Assumes nothing.
use Rattle.moves.proofs.Adding.{moves}
use lib.ListN.{length-take, length-drop}
use mathlib.Core.Path.{refl}
use native.Mathlib.Omega.{arith}
use Rattle.moves.proofs.down.Goals as goal

pub returns : goal.returns
returns c =
    moves _ _ c.args.k c.args.m _ c.requires.fits c.copy_within.ensures.after c.clear.ensures (simp (length-take, length-drop) (omega (arith, c.requires.fits, c.copy_within.ensures.len))) refl
