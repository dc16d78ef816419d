-- `tokens::token_at` meets its contract: by the byte behind the blanks.
-- Assumes nothing.
use Rattle.meaning.specs.Tokens.{is_letter, is_digit}
use Rattle.tokens.proofs.Fronts.{run_within_lem, some_left, end_tells, letters_tell, digits_are, digits_tell, sign_tells}
use native.Mathlib.Omega.{arith}
use Rattle.tokens.proofs.token_at.Goals as goal

pub returns-then-place-s : goal.returns-then-place-s
returns-then-place-s c =
    end_tells _ _ c.run_end-place.ensures c.if-place-s.true

pub bounds-s-place : goal.bounds-s-place
bounds-s-place c =
    some_left _ _ c.requires c.run_end-place.ensures c.if-place-s.false

pub run_end-next-requires : goal.run_end-next-requires
run_end-next-requires c =
    omega (arith, some_left _ _ c.requires c.run_end-place.ensures c.if-place-s.false)

pub slice_bounds-word_of-count : goal.slice_bounds-word_of-count
slice_bounds-word_of-count c =
    omega (arith, c.run_end-next.ensures)

pub slice_bounds-word_of-start : goal.slice_bounds-word_of-start
slice_bounds-word_of-start c =
    omega (arith, c.run_end-next.ensures)

pub slice_bounds-word_of-end : goal.slice_bounds-word_of-end
slice_bounds-word_of-end c =
    omega (arith, c.run_end-next.ensures, run_within_lem is_letter c.args.s.now c.run_end-place.result (omega (arith, some_left _ _ c.requires c.run_end-place.ensures c.if-place-s.false)))

pub returns-then-passes : goal.returns-then-passes
returns-then-passes c =
    letters_tell _ _ c.run_end-place.ensures (some_left _ _ c.requires c.run_end-place.ensures c.if-place-s.false) c.passes.ensures c.if-passes.true c.run_end-next.ensures c.word_of-token.ensures

pub run_end-next-requires-then-passes-2 : goal.run_end-next-requires-then-passes-2
run_end-next-requires-then-passes-2 c =
    omega (arith, some_left _ _ c.requires c.run_end-place.ensures c.if-place-s.false)

pub slice_bounds-value_of-count : goal.slice_bounds-value_of-count
slice_bounds-value_of-count c =
    omega (arith, c.run_end-next-then-passes-2.ensures)

pub slice_bounds-value_of-start : goal.slice_bounds-value_of-start
slice_bounds-value_of-start c =
    omega (arith, c.run_end-next-then-passes-2.ensures)

pub slice_bounds-value_of-end : goal.slice_bounds-value_of-end
slice_bounds-value_of-end c =
    omega (arith, c.run_end-next-then-passes-2.ensures, run_within_lem is_digit c.args.s.now c.run_end-place.result (omega (arith, some_left _ _ c.requires c.run_end-place.ensures c.if-place-s.false)))

pub value_of-n-requires : goal.value_of-n-requires
value_of-n-requires c =
    digits_are _ _ c.run_end-place.ensures (some_left _ _ c.requires c.run_end-place.ensures c.if-place-s.false) c.run_end-next-then-passes-2.ensures

pub returns-then-passes-2 : goal.returns-then-passes-2
returns-then-passes-2 c =
    digits_tell _ _ c.run_end-place.ensures (some_left _ _ c.requires c.run_end-place.ensures c.if-place-s.false) c.passes.ensures c.if-passes.false c.passes-2.ensures c.if-passes-2.true c.run_end-next-then-passes-2.ensures c.value_of-n.ensures

pub overflow_add-place : goal.overflow_add-place
overflow_add-place c =
    omega (arith, some_left _ _ c.requires c.run_end-place.ensures c.if-place-s.false)

pub overflow_add-next : goal.overflow_add-next
overflow_add-next c =
    omega (arith, some_left _ _ c.requires c.run_end-place.ensures c.if-place-s.false, c.sign_of-token.ensures.short)

pub returns : goal.returns
returns c =
    sign_tells _ _ c.run_end-place.ensures (some_left _ _ c.requires c.run_end-place.ensures c.if-place-s.false) c.passes.ensures c.if-passes.false c.passes-2.ensures c.if-passes-2.false c.byte_at.ensures c.sign_of-token.ensures.drawn
