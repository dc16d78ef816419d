-- `tokens::value_of` meets its contract.
-- Assumes nothing.
use Rattle.tokens.proofs.Decimals.{Valued}
use Rattle.tokens.proofs.value_of.Given as goal

abbrev pub invariant-loop-digit : goal.invariant-loop-digit
invariant-loop-digit l = Valued l.digits l.digit-index l.n
