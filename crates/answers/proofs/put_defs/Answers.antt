-- `answers::put_defs` meets its contract: the records so far stand behind what the buffer held (`Defining`).
-- Assumes nothing.
use Rattle.answers.proofs.Turns.{defining_more, defining_all}
use Rattle.answers.proofs.put_defs.Goals as goal

pub loop-d-preserved : goal.loop-d-preserved
loop-d-preserved c = defining_more _ c.loop-d.invariant c.loop-d-test.true c.put_one-at.auto.answer c.put_one-at.ensures

pub returns : goal.returns
returns c = defining_all _ c.loop-d.invariant c.loop-d-test.false
