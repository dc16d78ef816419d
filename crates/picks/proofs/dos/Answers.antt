-- `picks::dos` meets its contract.
-- Assumes nothing.
use Rattle.copies.proofs.Filling.{filled_none}
use Rattle.copies.specs.Fills.{spread}
use Rattle.meaning.specs.Forests.{end, join}
use Rattle.meaning.specs.Running.{value_of}
use native.Mathlib.Omega.{arith}
use Rattle.picks.proofs.dos.Goals as goal

pub chosen-requires-clause-filled : goal.chosen-requires-clause-filled
chosen-requires-clause-filled c = (end, filled_none c.requires.blank)

pub returns : goal.returns
unfolding join spread
returns c =
    record { is = λ env h. c.chosen.ensures (value_of env c.args.v) end (grind (arith, h.is c.args.v)) (filled_none c.requires.blank) }
