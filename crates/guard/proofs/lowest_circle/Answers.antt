-- `guard::lowest_circle` meets its contract: the lowest from here on is the lowest (`Seeking`). Assumes nothing.
use mathlib.Core.Path.{sym, ◌∙◌}
use Rattle.meaning.proofs.Searches.{seeking_more, seeking_here, seeking_all}
use Rattle.guard.proofs.lowest_circle.Goals as goal

pub returns-then-has : goal.returns-then-has
returns-then-has c = seeking_here _ _ c.loop-d.invariant c.loop-d-test.true (sym c.has.ensures ∙ c.if-has.true)

pub loop-d-preserved : goal.loop-d-preserved
loop-d-preserved c = seeking_more _ _ c.loop-d.invariant c.loop-d-test.true (sym c.has.ensures ∙ c.if-has.false)

pub returns : goal.returns
returns c = seeking_all _ _ c.loop-d.invariant c.loop-d-test.false
