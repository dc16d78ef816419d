-- `copies::put` meets its contract.
-- Assumes nothing.
use Rattle.copies.proofs.Firsts.{select_not, select_so}
use Rattle.copies.proofs.Filling.{filled_none, copied_as}
use Rattle.copies.specs.Fills.{first, done}
use mathlib.Core.Path.{ap}
use mathlib.Core.Bool.{not}
use Rattle.copies.proofs.put.Goals as goal

pub returns-then-not-passes : goal.returns-then-not-passes
returns-then-not-passes c = λ f e. copied_as (select_not c.args.test f e c.requires.long c.head_of-head.ensures c.passes.ensures (ap not c.if-not-passes.true)) (done (filled_none c.requires.blank))

pub returns : goal.returns
returns c = λ f e. copied_as (select_so c.args.test f e c.requires.long c.head_of-head.ensures c.passes.ensures (ap not c.if-not-passes.false)) (c.place.ensures (first f) e)
