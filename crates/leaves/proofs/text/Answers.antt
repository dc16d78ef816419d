-- `leaves::text` meets its contract: entry 1 is there. Assumes nothing.
use Rattle.leaves.proofs.Steps.{text_walks}
use Rattle.leaves.proofs.text.Goals as goal

pub returns : goal.returns
returns c = λ n t D ws cs s B. text_walks n B t
