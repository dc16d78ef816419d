-- `uses::lowest_misuse` meets its contract: the lowest from here on is the lowest (`Seeking`). Assumes nothing.
use native.Mathlib.Omega.{arith}
use mathlib.Core.Path.{ap}
use mathlib.Core.Bool.{not}
use borrow.Author.Tests.{eq-eqb, ne_eqb}
use Rattle.meaning.proofs.Searches.{seeking_none, seeking_more, seeking_here, seeking_all}
use Rattle.uses.proofs.lowest_misuse.Goals as goal

pub loop-q-init : goal.loop-q-init
loop-q-init c = seeking_none _ _

pub returns-then-misused : goal.returns-then-misused
returns-then-misused c =
    seeking_here _ _ c.loop-q.invariant (omega arith) (ap not (ne_eqb _ 1 c.if-misused.true))

pub loop-q-preserved : goal.loop-q-preserved
loop-q-preserved c =
    seeking_more _ _ c.loop-q.invariant (omega arith) (ap not (eq-eqb _ 1 c.if-misused.false))

pub returns : goal.returns
returns c = seeking_all _ _ c.loop-q.invariant (omega arith)
