-- `tokens::run_end` meets its contract.
-- Assumes nothing.
use Rattle.tokens.specs.Says.{test_of}
use Rattle.tokens.proofs.Runs.{Running}
use Rattle.tokens.proofs.run_end.Given as goal

abbrev pub invariant-loop-i : goal.invariant-loop-i
invariant-loop-i l = Running (test_of l.class) l.s l.at l.i
