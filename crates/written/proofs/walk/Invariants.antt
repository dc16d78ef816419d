-- `written::walk` meets its contract: what is in the buffer with what is left on the stack is the text. What is left weighs less at each turn.
-- Assumes nothing.
use Rattle.written.proofs.Turns.{Walking, measure}
use Rattle.written.proofs.walk.Given as goal

abbrev pub invariant-loop-top : goal.invariant-loop-top
invariant-loop-top l = Walking l.code l.initial.stack l.stack l.initial.text l.text l.top l.at l.last l.low

abbrev pub decreases-loop-top : goal.decreases-loop-top
decreases-loop-top l = measure l.code l.stack l.top
