-- `back::read_answer` meets its contract: what the reader refuses is refused, and what it reads is settled. Assumes nothing.
use Rattle.std.proofs.lemmas.Result.{err_from_is_err_and}
use Rattle.back.proofs.Judging.{file_ready, file_settled, file_stopped}
use Rattle.back.proofs.read_answer.Goals as goal

pub settle-requires : goal.settle-requires
settle-requires c = file_ready _ c.in_ok-read.ensures

pub returns-in_err-read : goal.returns-in_err-read
returns-in_err-read c =
    let p = err_from_is_err_and c.from_residual.result c.from_residual.ensures.1 in rw (p.1, p.2) (file_stopped _ _ c.in_err-read.ensures)

pub returns : goal.returns
returns c = file_settled _ c.in_ok-read.ensures c.read_records.auto.types c.settle.ensures
