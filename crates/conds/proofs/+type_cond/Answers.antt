-- `conds::type_cond` meets its contract: what is left to judge at the node that the loop has come to is all that there was (`Going`); nodes that are named
-- are lower, which is the measure of the loop and of the calls. Assumes nothing.
use Prim.Native.Nat.{◌<◌}
use native.Mathlib.Omega.{arith}
use Rattle.std.proofs.lemmas.Result.{err_from_is_err_and}
use Rattle.conds.proofs.Going.{plain_done, equal_in, equal_stops, equal_stops_then, equal_done, empty_in, empty_stops, empty_done, not_falls, not_going, left_low, or_stops, or_going, right_falls}
use Rattle.conds.proofs.+type_cond.Goals as goal

pub returns-in-True : goal.returns-in-True
returns-in-True t c =
    plain_done _ c.requires.lowers c.requires.inside c.loop-v.invariant c.read_cond-cond.ensures c.in-True.is

pub known-requires : goal.known-requires
known-requires t c =
    (equal_in _ c.requires.lowers c.requires.inside c.loop-v.invariant c.read_cond-cond.ensures c.in-Equal.is).0

pub returns-in_err-known-in-Equal : goal.returns-in_err-known-in-Equal
returns-in_err-known-in-Equal t c =
    let p = err_from_is_err_and c.from_residual.result c.from_residual.ensures.1 in
    rw (p.1, p.2) (equal_stops _ c.requires.lowers c.requires.inside c.loop-v.invariant c.read_cond-cond.ensures c.in-Equal.is c.in_err-known-in-Equal.ensures)

pub known-requires-in-Equal : goal.known-requires-in-Equal
known-requires-in-Equal t c =
    (equal_in _ c.requires.lowers c.requires.inside c.loop-v.invariant c.read_cond-cond.ensures c.in-Equal.is).1

pub returns-in_err-known-in-Equal-2 : goal.returns-in_err-known-in-Equal-2
returns-in_err-known-in-Equal-2 t c =
    let p = err_from_is_err_and c.from_residual-in_err-known-in-Equal-2.result c.from_residual-in_err-known-in-Equal-2.ensures.1 in
    rw (p.1, p.2) (equal_stops_then _ c.requires.lowers c.requires.inside c.loop-v.invariant c.read_cond-cond.ensures c.in-Equal.is c.in_ok-known-in-Equal.ensures c.in_err-known-in-Equal-2.ensures)

pub returns-in-Equal : goal.returns-in-Equal
returns-in-Equal t c =
    equal_done _ c.requires.lowers c.requires.inside c.loop-v.invariant c.read_cond-cond.ensures c.in-Equal.is c.in_ok-known-in-Equal.ensures c.in_ok-known-in-Equal-2.ensures

pub known-requires-in-Empty : goal.known-requires-in-Empty
known-requires-in-Empty t c =
    empty_in _ c.requires.lowers c.requires.inside c.loop-v.invariant c.read_cond-cond.ensures c.in-Empty.is

pub returns-in_err-known-in-Empty : goal.returns-in_err-known-in-Empty
returns-in_err-known-in-Empty t c =
    let p = err_from_is_err_and c.from_residual-in_err-known-in-Empty.result c.from_residual-in_err-known-in-Empty.ensures.1 in
    rw (p.1, p.2) (empty_stops _ c.requires.lowers c.requires.inside c.loop-v.invariant c.read_cond-cond.ensures c.in-Empty.is c.in_err-known-in-Empty.ensures)

pub returns-in-Empty : goal.returns-in-Empty
returns-in-Empty t c =
    empty_done _ c.requires.lowers c.requires.inside c.loop-v.invariant c.read_cond-cond.ensures c.in-Empty.is c.in_ok-known-in-Empty.ensures

pub type_cond-requires : goal.type_cond-requires
type_cond-requires t c =
    let low : c.from.result < c.loop-v.at = left_low _ c.requires.lowers c.requires.inside c.loop-v.invariant c.read_cond-cond.ensures c.in-Or.is c.from.ensures in
    (omega (arith, c.decreases, c.loop-v.invariant.to), (c.requires.lowers, omega (arith, c.loop-v.invariant.to)))

pub returns-in_err-type_cond-in-Or : goal.returns-in_err-type_cond-in-Or
returns-in_err-type_cond-in-Or t c =
    let p = err_from_is_err_and c.from_residual-in_err-type_cond-in-Or.result c.from_residual-in_err-type_cond-in-Or.ensures.1 in
    rw (p.1, p.2) (or_stops _ c.requires.lowers c.requires.inside c.loop-v.invariant c.read_cond-cond.ensures c.in-Or.is c.from.ensures c.in_err-type_cond-in-Or.ensures)

pub loop-v-smaller-in-Or : goal.loop-v-smaller-in-Or
loop-v-smaller-in-Or t c =
    right_falls _ c.requires.lowers c.requires.inside c.loop-v.invariant c.read_cond-cond.ensures c.in-Or.is c.from.ensures c.from-at.ensures

pub loop-v-preserved-in-Or : goal.loop-v-preserved-in-Or
loop-v-preserved-in-Or t c =
    or_going _ c.requires.lowers c.requires.inside c.loop-v.invariant c.read_cond-cond.ensures c.in-Or.is c.from.ensures c.in_ok-type_cond-in-Or.ensures c.from-at.ensures

pub loop-v-smaller : goal.loop-v-smaller
loop-v-smaller t c =
    not_falls _ c.requires.lowers c.requires.inside c.loop-v.invariant c.read_cond-cond.ensures c.in-Not.is c.from-at-in-Not.ensures

pub loop-v-preserved : goal.loop-v-preserved
loop-v-preserved t c =
    not_going _ c.requires.lowers c.requires.inside c.loop-v.invariant c.read_cond-cond.ensures c.in-Not.is c.from-at-in-Not.ensures
