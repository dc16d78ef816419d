-- The words before the loop's are not the letters.
-- Assumes nothing.
use Rattle.tokens.proofs.Rows.{Missed}
use Rattle.tokens.proofs.word_of.Given as goal

abbrev pub invariant-loop-word : goal.invariant-loop-word
invariant-loop-word l = Missed l.word-items l.letters l.word-index
