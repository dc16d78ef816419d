-- `records::value_fits` meets its contract: a record fits where there is no node. Assumes nothing.
use Rattle.words.specs.Tables.{code_of}
use Rattle.records.proofs.value_fits.Goals as goal

pub returns : goal.returns
unfolding code_of
returns c = rw c.new.ensures at c.item_fits.ensures
