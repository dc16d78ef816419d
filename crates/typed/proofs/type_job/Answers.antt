-- `typed::type_job` meets its contract: what reading refuses is refused, and what it accepts is typed. Assumes nothing.
use Rattle.std.proofs.lemmas.Result.{err_from_is_err_and}
use Rattle.typed.proofs.Beginning.{job_ready}
use Rattle.typed.proofs.Leaving.{job_typed_lem, job_stopped}
use Rattle.typed.proofs.type_job.Goals as goal

pub returns-in_err-read : goal.returns-in_err-read
returns-in_err-read c =
    let p = err_from_is_err_and c.from_residual.result c.from_residual.ensures.1 in rw (p.1, p.2) (job_stopped _ _ c.in_err-read.ensures)

pub walk-made-requires : goal.walk-made-requires
walk-made-requires c = job_ready _ c.in_ok-read.ensures c.read_job.auto.types c.read_job.auto.query

pub settle-requires : goal.settle-requires
settle-requires c = (job_ready _ c.in_ok-read.ensures c.read_job.auto.types c.read_job.auto.query).code_inside

pub returns : goal.returns
returns c = job_typed_lem _ c.in_ok-read.ensures c.read_job.auto.types c.read_job.auto.query c.walk-made.ensures c.settle.ensures
