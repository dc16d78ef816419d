-- `conditions::opened` meets its contract.
-- Assumes nothing.
use Rattle.std.proofs.lemmas.Result.{err_from_is_err_and}
use Rattle.conditions.specs.Frames.{full, room}
use Rattle.conditions.proofs.opened.Goals as goal

pub returns-in_err-check_depth : goal.returns-in_err-check_depth
returns-in_err-check_depth c =
    let p = err_from_is_err_and c.from_residual.result c.from_residual.ensures.1 in
    rw (p.1, p.2, c.in_err-check_depth.ensures.1) (full c.in_err-check_depth.ensures.0)

pub returns : goal.returns
returns c = room c.in_ok-check_depth.ensures
