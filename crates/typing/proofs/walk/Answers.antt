-- `typing::walk` meets its contract: what is left to do, at the node or with the answer that it has come to, is the whole (`Going`).
-- Assumes nothing.
use Rattle.std.proofs.lemmas.Result.{err_from_is_err_and}
use mathlib.Core.Path.{refl}
use Rattle.typing.proofs.Going.{going_start, down_steps, up_done, up_stops, up_framed, up_steps, at_node, at_end, at_frame, stepped_going, stepped_less, framed_less}
use Rattle.typing.proofs.walk.Goals as goal

pub loop-next-init : goal.loop-next-init
loop-next-init c =
    going_start _ c.requires.here.lowers c.requires.here.begins.within.wide _ _ c.requires.here.begins c.requires.here.low refl refl

pub returns-in_err-next-in-Down : goal.returns-in_err-next-in-Down
returns-in_err-next-in-Down c =
    let x = err_from_is_err_and c.from_residual.result c.from_residual.ensures.1 in
    let s = at_node _ c.loop-next.invariant c.in-Down.is in
    rw (x.1, x.2) (up_stops _ c.requires.here.lowers c.requires.here.begins.within.wide (down_steps _ c.requires.here.lowers c.requires.here.begins.within.wide s {ns = c.enter.new.marks} c.requires.deep c.enter.auto.marks c.enter.auto.stack c.in_err-next-in-Down.ensures))

pub loop-next-smaller-in-Down : goal.loop-next-smaller-in-Down
loop-next-smaller-in-Down c =
    let s = at_node _ c.loop-next.invariant c.in-Down.is in
    stepped_less _ {ms = c.enter.new.marks} _ c.in-Down.is (down_steps _ c.requires.here.lowers c.requires.here.begins.within.wide s c.requires.deep c.enter.auto.marks c.enter.auto.stack c.in_ok-next-in-Down.ensures)

pub loop-next-preserved-in-Down : goal.loop-next-preserved-in-Down
loop-next-preserved-in-Down c =
    let s = at_node _ c.loop-next.invariant c.in-Down.is in
    stepped_going _ (down_steps _ c.requires.here.lowers c.requires.here.begins.within.wide s c.requires.deep c.enter.auto.marks c.enter.auto.stack c.in_ok-next-in-Down.ensures)

pub returns-then-top-eq0 : goal.returns-then-top-eq0
returns-then-top-eq0 c =
    up_done _ c.requires.here.lowers c.requires.here.begins.within.wide (at_end _ c.loop-next.invariant c.in-Up.is c.if-top-eq0.true)

pub leave-requires : goal.leave-requires
leave-requires c =
    let a = at_frame _ c.loop-next.invariant c.in-Up.is c.if-top-eq0.false in
    record { framed = up_framed _ c.requires.here.lowers c.requires.here.begins.within.wide a c.requires.deep c.requires.here.marked }

pub returns-in_err-next-in-Up : goal.returns-in_err-next-in-Up
returns-in_err-next-in-Up c =
    let x = err_from_is_err_and c.from_residual-in_err-next-in-Up.result c.from_residual-in_err-next-in-Up.ensures.1 in
    let a = at_frame _ c.loop-next.invariant c.in-Up.is c.if-top-eq0.false in
    rw (x.1, x.2) (up_stops _ c.requires.here.lowers c.requires.here.begins.within.wide (up_steps _ c.requires.here.lowers c.requires.here.begins.within.wide a {ns = c.leave.new.marks} c.requires.deep c.leave.auto.marks c.leave.auto.stack c.in_err-next-in-Up.ensures))

pub loop-next-smaller : goal.loop-next-smaller
loop-next-smaller c =
    let a = at_frame _ c.loop-next.invariant c.in-Up.is c.if-top-eq0.false in
    framed_less _ {ms = c.leave.new.marks} _ c.in-Up.is c.if-top-eq0.false (up_steps _ c.requires.here.lowers c.requires.here.begins.within.wide a c.requires.deep c.leave.auto.marks c.leave.auto.stack c.in_ok-next-in-Up.ensures)

pub loop-next-preserved : goal.loop-next-preserved
loop-next-preserved c =
    let a = at_frame _ c.loop-next.invariant c.in-Up.is c.if-top-eq0.false in
    stepped_going _ (up_steps _ c.requires.here.lowers c.requires.here.begins.within.wide a c.requires.deep c.leave.auto.marks c.leave.auto.stack c.in_ok-next-in-Up.ensures)
