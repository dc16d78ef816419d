-- `ran::start` meets its contract. Assumes nothing.
use Rattle.ran.proofs.Spreading.{start_later}
use borrow.Author.Rules.{rules}
use Rattle.ran.proofs.start.Goals as goal

pub returns-else-i-eq0 : goal.returns-else-i-eq0
returns-else-i-eq0 c =
    start_later c.args.ends.now c.args.i (search rules)
