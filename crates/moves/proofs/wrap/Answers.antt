-- `moves::wrap` meets its contract.
-- Assumes nothing.
use Rattle.moves.proofs.Adding.{wraps}
use Rattle.moves.proofs.wrap.Goals as goal

pub returns : goal.returns
returns c =
    wraps _ _ c.args.l c.args.k c.requires.fits c.put_entry.ensures
