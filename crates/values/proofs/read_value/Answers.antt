-- `values::read_value` meets its contract: the record 66 is wrong, or the forest behind it decides. Assumes nothing.
use native.Mathlib.Omega.{arith}
use Rattle.std.proofs.lemmas.Result.{err_from_is_err_and}
use Rattle.values.proofs.Valuing.{value_inside, value_stops, value_gives, forest_wrong, forest_given}
use Rattle.values.proofs.read_value.Goals as goal

pub returns-in_err-x : goal.returns-in_err-x
returns-in_err-x c =
    let p = err_from_is_err_and c.from_residual.result c.from_residual.ensures.1 in
    rw (p.1, p.2) (value_stops _ _ _ c.in_err-x.ensures)

pub read_forest-requires-clause-inside : goal.read_forest-requires-clause-inside
read_forest-requires-clause-inside c = value_inside _ _ _ c.in_ok-x.ensures

pub returns-in_err-next : goal.returns-in_err-next
returns-in_err-next c =
    let p = err_from_is_err_and c.from_residual-in_err-next.result c.from_residual-in_err-next.ensures.1 in
    rw (p.1, p.2) (value_gives _ _ _ c.in_ok-x.ensures (forest_wrong c.in_err-next.ensures))

pub is_odd-odd-requires : goal.is_odd-odd-requires
is_odd-odd-requires c = value_inside _ _ _ c.in_ok-x.ensures

pub returns : goal.returns
returns c = value_gives _ _ _ c.in_ok-x.ensures (forest_given _ _ _ c.in_ok-next.ensures (omega (arith, c.type_inv)) c.is_odd-odd.ensures)
