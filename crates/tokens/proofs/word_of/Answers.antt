-- `tokens::word_of` meets its contract.
-- Assumes nothing.
use mathlib.Core.Path.{refl}
use Rattle.meaning.specs.Tokens.{words}
use Rattle.meaning.specs.Forests.{same_words}
use Rattle.tokens.proofs.Rows.{word_hit, word_miss, word_none}
use Rattle.tokens.proofs.word_of.Goals as goal

pub loop-word-init : goal.loop-word-init
unfolding words same_words
loop-word-init c = record { rows = refl; is = refl }

pub returns-then-eq : goal.returns-then-eq
returns-then-eq c = word_hit c.loop-word.invariant _ _ c.eq.ensures c.loop-word-test.true c.if-eq.true

pub loop-word-preserved : goal.loop-word-preserved
loop-word-preserved c = word_miss c.loop-word.invariant _ _ c.eq.ensures c.loop-word-test.true c.if-eq.false

pub returns : goal.returns
returns c = word_none c.loop-word.invariant c.loop-word-test.false
