-- `uses::misuse_of` meets its contract: the table counts nothing at first, so what it holds then is how often each node is used. Assumes nothing.
use mathlib.Core.Path.{◌∙◌, refl}
use lib.ListN.{length-replicate}
use Rattle.meaning.specs.Base.{zeros}
use Rattle.uses.proofs.Counting.{misuse_found}
use Rattle.uses.proofs.misuse_of.Goals as goal

pub count_all-requires-clause-zero : goal.count_all-requires-clause-zero
unfolding zeros
count_all-requires-clause-zero g c = rw length-replicate

pub returns : goal.returns
unfolding zeros
returns g c = (rw (c.saturating_sub.ensures, c.len.ensures) at c.lowest_misuse.ensures) ∙ misuse_found g.row.N _ _ refl c.count_all.ensures
