-- `jobs::read_job` meets its contract: what the reader refuses is refused, and what it reads is settled by the checks. Assumes nothing.
use Rattle.std.proofs.lemmas.Result.{err_from_is_err_and}
use Rattle.jobs.proofs.Checking.{job_ready, job_settled, job_stopped}
use Rattle.jobs.proofs.read_job.Goals as goal

pub settle-requires : goal.settle-requires
settle-requires c = job_ready _ c.in_ok-read.ensures

pub returns-in_err-read : goal.returns-in_err-read
returns-in_err-read c =
    let p = err_from_is_err_and c.from_residual.result c.from_residual.ensures.1 in rw (p.1, p.2) (job_stopped _ _ c.in_err-read.ensures)

pub returns : goal.returns
returns c = job_settled _ c.in_ok-read.ensures c.read_records.auto.types c.read_records.auto.code c.settle.ensures
