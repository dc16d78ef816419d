-- `leaves::nothing` meets its contract: entry 0 is there. Assumes nothing.
use Rattle.leaves.proofs.Steps.{nothing_walks}
use Rattle.leaves.proofs.nothing.Goals as goal

pub returns : goal.returns
returns c = λ n D ws cs s B. nothing_walks n B
