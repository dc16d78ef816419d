-- `values::entry_at` meets its contract: the record that is due, of kind 64 or 65, in its stretch. Assumes nothing.
use Rattle.std.proofs.lemmas.Result.{err_from_is_err_and}
use Rattle.values.proofs.Standing.{entry_wrong, entry_other, entry_past, entry_there}
use Rattle.values.proofs.entry_at.Goals as goal

pub returns-in_err-x : goal.returns-in_err-x
returns-in_err-x c =
    let p = err_from_is_err_and c.from_residual.result c.from_residual.ensures.1 in
    rw (p.1, p.2) (entry_wrong _ _ _ c.in_err-x.ensures)

pub returns-then-not-is_entry : goal.returns-then-not-is_entry
returns-then-not-is_entry c = rw c.wrong.ensures (entry_other _ _ c.in_ok-x.ensures _ c.is_entry.ensures c.if-not-is_entry.true)

pub returns-then-left-x : goal.returns-then-left-x
returns-then-left-x c =
    rw c.wrong-then-left-x.ensures (entry_past _ _ c.in_ok-x.ensures _ c.is_entry.ensures c.if-not-is_entry.false c.if-left-x.true)

pub returns : goal.returns
returns c =
    entry_there _ _ c.in_ok-x.ensures _ c.is_entry.ensures c.if-not-is_entry.false c.if-left-x.false
