-- `dos::unite` meets its contract: the unions left to make from here are the whole (`Uniting`). Assumes nothing.
use Rattle.std.proofs.lemmas.Result.{err_from_is_err_and}
use mathlib.Core.Path.{refl}
use native.Mathlib.Omega.{arith}
use Rattle.words.proofs.Tables.{table_length}
use Rattle.reach.proofs.Atoms.{next_low, next_from}
use Rattle.dos.proofs.Uniting.{uniting_words, uniting_all, uniting_full, uniting_more, uniting_next}
use Rattle.dos.proofs.unite.Goals as goal

pub overflow_cast-y : goal.overflow_cast-y
overflow_cast-y c =
    let s = c.loop-y.invariant c.requires.ready.0 c.requires.ready.1 in
    omega (arith, uniting_words s (uniting_next _ _ s c.new.ensures c.in-Some.ensures))

pub next-requires : goal.next-requires
next-requires c = record { marked = rw (c.new.ensures, table_length) c.requires.marked }

pub overflow_add-i-in-Some : goal.overflow_add-i-in-Some
overflow_add-i-in-Some c =
    let s = c.loop-y.invariant c.requires.ready.0 c.requires.ready.1 in
    omega (arith, uniting_words s (uniting_next _ _ s c.new.ensures c.in-Some.ensures))

pub loop-y-smaller : goal.loop-y-smaller
loop-y-smaller c =
    let s = c.loop-y.invariant c.requires.ready.0 c.requires.ready.1 in
    let next = uniting_next _ _ s c.new.ensures c.in-Some.ensures in
    omega (arith, next_low next, next_from next)

pub returns-in_err-made : goal.returns-in_err-made
returns-in_err-made c =
    λ D R.
    let s = c.loop-y.invariant D R in
    let p = err_from_is_err_and c.from_residual.result c.from_residual.ensures.1 in
    rw (p.1, p.2) (uniting_full s (uniting_next _ _ s c.new.ensures c.in-Some.ensures) c.words-both.ensures c.in_err-made.ensures refl)

pub loop-y-preserved : goal.loop-y-preserved
loop-y-preserved c =
    λ D R.
    let s = c.loop-y.invariant D R in
    uniting_more s (uniting_next _ _ s c.new.ensures c.in-Some.ensures) c.words-both.ensures c.in_ok-made.ensures refl

pub returns : goal.returns
returns c =
    λ D R. let s = c.loop-y.invariant D R in uniting_all s (uniting_next _ _ s c.new.ensures c.in_default.ensures)
