-- `truths::truth` meets its contract; parts have lower nodes, which is the measure of its calls. Assumes nothing.
use Rattle.conds.proofs.Going.{equal_low, empty_low, or_low, not_low}
use Rattle.truths.proofs.Telling.{told_true, told_false, told_equal, told_empty, told_not, told_left, told_right}
use native.Mathlib.Omega.{arith}
use Rattle.truths.proofs.+truth.Goals as goal

pub equal-requires-clause-left : goal.equal-requires-clause-left
equal-requires-clause-left t c =
    (equal_low _ c.requires.lowers c.requires.inside c.read_cond.ensures c.in-Equal.is).0

pub equal-requires-clause-right : goal.equal-requires-clause-right
equal-requires-clause-right t c =
    (equal_low _ c.requires.lowers c.requires.inside c.read_cond.ensures c.in-Equal.is).1

pub empty-requires : goal.empty-requires
empty-requires t c =
    empty_low _ c.requires.lowers c.requires.inside c.read_cond.ensures c.in-Empty.is

pub truth-requires : goal.truth-requires
truth-requires t c =
    let low = or_low _ c.requires.lowers c.requires.inside c.read_cond.ensures c.in-Or.is in
    (omega (arith, c.decreases, low, c.from-left.ensures), (c.requires.lowers, (omega (arith, low, c.from-left.ensures, c.requires.inside), c.requires.places)))

pub truth-requires-else-truth : goal.truth-requires-else-truth
truth-requires-else-truth t c =
    let low = or_low _ c.requires.lowers c.requires.inside c.read_cond.ensures c.in-Or.is in
    (omega (arith, c.decreases, low, c.from-right.ensures), (c.requires.lowers, (omega (arith, low, c.from-right.ensures, c.requires.inside), c.requires.places)))

pub truth-requires-in-Not : goal.truth-requires-in-Not
truth-requires-in-Not t c =
    let low = not_low _ c.requires.lowers c.requires.inside c.read_cond.ensures c.in-Not.is in
    (omega (arith, c.decreases, low, c.from.ensures), (c.requires.lowers, (omega (arith, low, c.from.ensures, c.requires.inside), c.requires.places)))

pub returns-in-True : goal.returns-in-True
returns-in-True t c =
    told_true c.requires.lowers c.requires.inside c.read_cond.ensures c.in-True.is

pub returns-in-False : goal.returns-in-False
returns-in-False t c =
    told_false c.requires.lowers c.requires.inside c.read_cond.ensures c.in-False.is

pub returns-in-Equal : goal.returns-in-Equal
returns-in-Equal t c =
    told_equal c.requires.lowers c.requires.inside c.read_cond.ensures c.in-Equal.is c.equal.ensures

pub returns-in-Empty : goal.returns-in-Empty
returns-in-Empty t c =
    told_empty c.requires.lowers c.requires.inside c.read_cond.ensures c.in-Empty.is (c.empty.ensures _ c.requires.places)

pub returns-then-truth : goal.returns-then-truth
returns-then-truth t c =
    told_left c.requires.lowers c.requires.inside c.read_cond.ensures c.from-left.ensures c.truth.ensures c.in-Or.is c.if-truth.true

pub returns-else-truth : goal.returns-else-truth
returns-else-truth t c =
    told_right c.requires.lowers c.requires.inside c.read_cond.ensures c.from-left.ensures c.truth.ensures c.in-Or.is c.if-truth.false c.from-right.ensures c.truth-else-truth.ensures

pub returns-in-Not : goal.returns-in-Not
returns-in-Not t c =
    told_not c.requires.lowers c.requires.inside c.read_cond.ensures c.from.ensures c.truth-in-Not.ensures c.in-Not.is
