-- `running::round` meets its contract: the next tree's body comes, or all bodies are moved down.
-- Assumes nothing.
use mathlib.Core.Path.{refl}
use Rattle.running.proofs.Frames.{turned}
use Rattle.running.proofs.Rounding.{loop_low, loop_inside, loop_space, source_is, more_is, none_is, there_is, tree_ends, round_on, round_up}
use native.Mathlib.Omega.{arith}
use Rattle.running.proofs.round.Goals as goal

pub bounds-held-j : goal.bounds-held-j
bounds-held-j c =
    omega (arith, loop_inside c.requires.looping, source_is c.requires.looping c.requires.first, c.from-base.ensures, c.if-j-end.true)

pub overflow_cast-to : goal.overflow_cast-to
overflow_cast-to c =
    let more = more_is c.requires.looping c.from-base.ensures c.requires.first c.from-j.ensures c.if-j-end.true in
    omega (arith, more, loop_low c.requires.looping, (tree_ends c.requires.looping more (there_is c.requires.looping more c.from-j.ensures c.from-size.ensures)).1, c.from-j.ensures, c.from.ensures)

pub overflow_cast-next : goal.overflow_cast-next
overflow_cast-next c =
    let more = more_is c.requires.looping c.from-base.ensures c.requires.first c.from-j.ensures c.if-j-end.true in
    omega (arith, more, loop_low c.requires.looping, (tree_ends c.requires.looping more (there_is c.requires.looping more c.from-j.ensures c.from-size.ensures)).1)

pub overflow_add-end-then-j-end : goal.overflow_add-end-then-j-end
overflow_add-end-then-j-end c =
    omega (arith, loop_low c.requires.looping, source_is c.requires.looping c.requires.first, c.from-base.ensures)

pub returns-then-j-end : goal.returns-then-j-end
returns-then-j-end c =
    λ l.
    let more = more_is l c.from-base.ensures c.requires.first c.from-j.ensures c.if-j-end.true in
    round_on l more (there_is l more c.from-j.ensures c.from-size.ensures) c.requires.variable _ refl refl refl refl c.from-then-j-end.ensures c.from-base.ensures c.requires.first c.bind-hides.ensures.hidden c.bind-hides.ensures.put refl (omega (arith, c.from-j.ensures, c.from.ensures)) c.go_on.ensures.stacked (turned _ c.go_on.ensures.next)

pub down-requires : goal.down-requires
down-requires c =
    loop_space c.requires.looping c.requires.first

pub returns : goal.returns
returns c =
    λ l. round_up l (none_is l c.from-base.ensures c.requires.first c.from-j.ensures c.if-j-end.false) c.requires.first c.down.ensures c.down.auto.rest c.from-base.ensures refl refl
