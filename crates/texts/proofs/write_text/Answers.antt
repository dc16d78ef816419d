-- `texts::write_text` meets its contract: what reading refuses is refused, and what it reads is written.
-- Assumes nothing.
use Rattle.words.proofs.Stores.{blanked_whole}
use Rattle.texts.proofs.Leaving.{job_long, job_code, job_ready, job_settled, job_stopped}
use Rattle.texts.proofs.write_text.Goals as goal

pub settle-requires-clause-types : goal.settle-requires-clause-types
settle-requires-clause-types c = job_long _ c.in-Ok.ensures c.read_job.auto.types c.read_job.auto.query

pub settle-requires-clause-nodes : goal.settle-requires-clause-nodes
settle-requires-clause-nodes c = job_code _ c.in-Ok.ensures c.read_job.auto.types c.read_job.auto.query

pub settle-requires-clause-ready : goal.settle-requires-clause-ready
settle-requires-clause-ready c = job_ready _ c.in-Ok.ensures c.read_job.auto.types c.read_job.auto.query

pub returns-in-Ok : goal.returns-in-Ok
returns-in-Ok c = job_settled _ c.in-Ok.ensures c.read_job.auto.types c.read_job.auto.query c.settle.ensures

pub returns-in-Err : goal.returns-in-Err
returns-in-Err c = job_stopped _ c.in-Err.ensures (blanked_whole c.args.text.now c.clear_bytes.ensures)
