-- `reading::declared` meets its contract: looking on from a variable is looking through all.
-- Assumes nothing.
use native.Mathlib.Omega.{arith}
use Rattle.reading.proofs.Looking.{found_here, not_here, not_found}
use Rattle.reading.proofs.declared.Goals as goal

pub returns-then-get-v : goal.returns-then-get-v
returns-then-get-v c = found_here c.loop-i.invariant (omega arith) _ c.get.ensures c.if-get-v.true

pub loop-i-preserved : goal.loop-i-preserved
loop-i-preserved c = not_here c.loop-i.invariant (omega arith) _ c.get.ensures c.if-get-v.false

pub returns : goal.returns
returns c = not_found c.loop-i.invariant (omega arith)
