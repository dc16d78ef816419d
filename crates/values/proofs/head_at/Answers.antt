-- `values::head_at` meets its contract: the record that is due, of kind 66, for that variable. Assumes nothing.
use Rattle.std.proofs.lemmas.Result.{err_from_is_err_and}
use Rattle.values.proofs.Standing.{head_wrong, head_other, head_not, head_there}
use Rattle.values.proofs.head_at.Goals as goal
use Rattle.values.proofs.head_at.Goals.{then-x-ne66-via-then-x-ne66, then-x-ne66-via-else-x-ne66+then-x-v}

pub returns-in_err-x : goal.returns-in_err-x
returns-in_err-x c =
    let p = err_from_is_err_and c.from_residual.result c.from_residual.ensures.1 in
    rw (p.1, p.2) (head_wrong _ _ _ c.in_err-x.ensures)

pub returns-then-x-ne66 : goal.returns-then-x-ne66
returns-then-x-ne66 c =
    rw c.wrong.ensures
    (elim c.then-x-ne66.branch [
      | then-x-ne66-via-then-x-ne66 w ↦ head_other _ _ c.in_ok-x.ensures _ w.if-x-ne66.true
      | then-x-ne66-via-else-x-ne66+then-x-v w ↦ head_not _ _ c.in_ok-x.ensures _ w.if-x-ne66.false w.if-x-v.true
    ])

pub returns : goal.returns
returns c = head_there _ _ c.in_ok-x.ensures _ c.if-x-ne66.false c.if-x-v.false
