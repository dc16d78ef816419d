-- `walks::walk` meets its contract: what is left to do, at the entry or with the answer that it has come to, is the whole (`Going`).
-- Assumes nothing.
use Rattle.std.proofs.lemmas.Result.{err_from_is_err_and}
use mathlib.Core.Path.{refl}
use Rattle.walks.proofs.Going.{one_less, going_start, held_inside, down_formed, down_low, down_going, down_less, up_done, up_halved, up_fit, up_second, up_second_less, up_appends, up_full, up_less, up_more, at_entry, at_end, at_frame}
use Rattle.walks.proofs.walk.Goals as goal

pub loop-next-init : goal.loop-next-init
loop-next-init c =
    going_start _ c.requires.ready.0 _ c.requires.ready.1 refl

pub loop-next-smaller-in-Down : goal.loop-next-smaller-in-Down
loop-next-smaller-in-Down c =
    let s = at_entry _ c.loop-next.invariant c.in-Down.is in
    down_less _ c.requires.ready.0 s c.requires.enough _ (rw c.new-known.ensures at c.down-next.ensures.next) (rw c.new-known.ensures at c.down-next.ensures.pushed) c.in-Down.is

pub loop-next-preserved-in-Down : goal.loop-next-preserved-in-Down
loop-next-preserved-in-Down c =
    let s = at_entry _ c.loop-next.invariant c.in-Down.is in
    down_going _ c.requires.ready.0 s c.requires.enough _ (rw c.new-known.ensures at c.down-next.ensures.next) (rw c.new-known.ensures at c.down-next.ensures.pushed)

pub returns-then-top-eq0 : goal.returns-then-top-eq0
returns-then-top-eq0 c =
    up_done _ c.requires.ready.0 (at_end _ c.loop-next.invariant c.in-Up.is c.if-top-eq0.true)

pub word-requires : goal.word-requires
word-requires c =
    let s = at_frame _ c.loop-next.invariant c.in-Up.is c.if-top-eq0.false in
    up_fit _ c.requires.ready.0 s c.requires.enough (rw (c.new-known-in-Up.ensures, c.of_word.ensures) at c.over-then.ensures) c.in-Second.is

pub loop-next-smaller-in-Second : goal.loop-next-smaller-in-Second
loop-next-smaller-in-Second c =
    let s = at_frame _ c.loop-next.invariant c.in-Up.is c.if-top-eq0.false in
    up_second_less _ c.requires.ready.0 s c.requires.enough (rw (c.new-known-in-Up.ensures, c.of_word.ensures) at c.over-then.ensures) c.in-Second.is _ c.word.ensures (one_less c.if-top-eq0.false) c.in-Up.is

pub loop-next-preserved-in-Second : goal.loop-next-preserved-in-Second
loop-next-preserved-in-Second c =
    let s = at_frame _ c.loop-next.invariant c.in-Up.is c.if-top-eq0.false in
    up_second _ c.requires.ready.0 s c.requires.enough (rw (c.new-known-in-Up.ensures, c.of_word.ensures) at c.over-then.ensures) c.in-Second.is _ c.word.ensures (one_less c.if-top-eq0.false)

pub loop-next-smaller : goal.loop-next-smaller
loop-next-smaller c =
    let s = at_frame _ c.loop-next.invariant c.in-Up.is c.if-top-eq0.false in
    let x = up_appends _ c.requires.ready.0 s c.requires.enough (rw (c.new-known-in-Up.ensures, c.of_word.ensures) at c.over-then.ensures) c.in-Append.is in
    up_less _ c.requires.ready.0 s x c.append.ensures (one_less c.if-top-eq0.false) c.in-Up.is

pub loop-next-preserved : goal.loop-next-preserved
loop-next-preserved c =
    let s = at_frame _ c.loop-next.invariant c.in-Up.is c.if-top-eq0.false in
    let x = up_appends _ c.requires.ready.0 s c.requires.enough (rw (c.new-known-in-Up.ensures, c.of_word.ensures) at c.over-then.ensures) c.in-Append.is in
    up_more _ c.requires.ready.0 s x c.append.ensures c.in_ok-made-in-Append.was

pub returns-in_err-made-in-Append : goal.returns-in_err-made-in-Append
returns-in_err-made-in-Append c =
    let s = at_frame _ c.loop-next.invariant c.in-Up.is c.if-top-eq0.false in
    let x = up_appends _ c.requires.ready.0 s c.requires.enough (rw (c.new-known-in-Up.ensures, c.of_word.ensures) at c.over-then.ensures) c.in-Append.is in
    let p = err_from_is_err_and c.from_residual.result c.from_residual.ensures.1 in
    rw (p.1, p.2) (up_full _ c.requires.ready.0 s x c.in_err-made-in-Append.ensures refl)

pub new-known-requires : goal.new-known-requires
new-known-requires c = held_inside _ c.requires.ready.0 (at_entry _ c.loop-next.invariant c.in-Down.is).held

pub new-known-requires-in-Up : goal.new-known-requires-in-Up
new-known-requires-in-Up c =
    held_inside _ c.requires.ready.0 (at_frame _ c.loop-next.invariant c.in-Up.is c.if-top-eq0.false).held

pub down-next-requires-clause-formed : goal.down-next-requires-clause-formed
down-next-requires-clause-formed c =
    rw c.new-known.ensures (down_formed _ c.requires.ready.0 (at_entry _ c.loop-next.invariant c.in-Down.is))

pub down-next-requires-clause-low : goal.down-next-requires-clause-low
down-next-requires-clause-low c =
    rw c.new-known.ensures (down_low _ c.requires.ready.0 (at_entry _ c.loop-next.invariant c.in-Down.is))

pub over-then-requires-clause-halved : goal.over-then-requires-clause-halved
over-then-requires-clause-halved c =
    rw (c.new-known-in-Up.ensures, c.of_word.ensures) (up_halved _ c.requires.ready.0 (at_frame _ c.loop-next.invariant c.in-Up.is c.if-top-eq0.false))
