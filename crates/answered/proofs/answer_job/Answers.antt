-- `answered::answer_job` meets its contract: what typing refuses is refused, and what it types is written. Assumes nothing.
use Rattle.words.proofs.Stores.{blanked_whole}
use Rattle.answered.proofs.Leaving.{job_ready, job_settled, job_stopped}
use Rattle.answered.proofs.answer_job.Goals as goal

pub settle-requires : goal.settle-requires
settle-requires c = job_ready _ c.in-Ok.ensures

pub returns-in-Ok : goal.returns-in-Ok
returns-in-Ok c = job_settled _ c.in-Ok.ensures c.settle.ensures

pub returns-in-Err : goal.returns-in-Err
returns-in-Err c = job_stopped _ _ c.in-Err.ensures (blanked_whole c.args.answer.now c.clear_bytes.ensures)
