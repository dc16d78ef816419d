-- `joins::free` meets its contract. Assumes nothing.
use Rattle.joins.proofs.Added.{free_frees}
use Rattle.joins.proofs.free.Goals as goal

pub returns : goal.returns
returns c = free_frees c.args.n c.args.v c.in_ok-made.was c.requires c.in_ok-unbound.ensures
