-- `conditions::run` meets its contract.
-- Assumes nothing.
use mathlib.Core.Path.{refl}
use Rattle.std.proofs.lemmas.Result.{err_from_is_err_and}
use Rattle.conditions.proofs.Going.{going_start, going_by, going_refused, going_closed, going_resumed, going_begun}
use Rattle.conditions.proofs.run.Goals as goal

pub loop-act-init : goal.loop-act-init
loop-act-init c = going_start _ _ _ _ _ refl c.requires.moves c.requires.open_room

pub returns-then-top-eq0 : goal.returns-then-top-eq0
returns-then-top-eq0 c = going_closed _ _ _ _ _ c.if-top-eq0.true (going_by _ _ _ _ _ c.in-Done.is c.loop-act.invariant)

pub returns-in_err-act-in-Done : goal.returns-in_err-act-in-Done
returns-in_err-act-in-Done c =
    let p = err_from_is_err_and c.from_residual.result c.from_residual.ensures.1 in
    let g = going_by _ _ _ _ _ c.in-Done.is c.loop-act.invariant in
    rw (p.1, p.2) (going_refused _ _ _ _ _ (going_resumed _ _ _ _ _ c.if-top-eq0.false refl c.from.ensures g refl c.resume.auto.code c.in_err-act-in-Done.ensures))

pub loop-act-preserved-in-Done : goal.loop-act-preserved-in-Done
loop-act-preserved-in-Done c =
    let g = going_by _ _ _ _ _ c.in-Done.is c.loop-act.invariant in
    going_resumed _ _ _ _ _ c.if-top-eq0.false refl c.from.ensures g refl c.resume.auto.code c.in_ok-act-in-Done.ensures

pub returns-in_err-act-in-More : goal.returns-in_err-act-in-More
returns-in_err-act-in-More c =
    let p = err_from_is_err_and c.from_residual-in_err-act-in-More.result c.from_residual-in_err-act-in-More.ensures.1 in
    let g = going_by _ _ _ _ _ c.in-More.is c.loop-act.invariant in
    rw (p.1, p.2) (going_refused _ _ _ _ _ (going_begun _ _ _ _ _ refl refl c.from-in-More.ensures g c.requires.wide c.begin.auto.code c.in_err-act-in-More.ensures))

pub loop-act-preserved : goal.loop-act-preserved
loop-act-preserved c =
    let g = going_by _ _ _ _ _ c.in-More.is c.loop-act.invariant in
    going_begun _ _ _ _ _ refl refl c.from-in-More.ensures g c.requires.wide c.begin.auto.code c.in_ok-act-in-More.ensures
