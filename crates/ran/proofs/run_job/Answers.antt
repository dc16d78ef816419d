-- `ran::run_job` meets its contract: what typing refuses is refused, and what it types is run. Assumes nothing.
use Rattle.ran.proofs.Leaving.{job_ready, job_long, job_code, job_vars, job_settled, job_stopped}
use Rattle.ran.proofs.run_job.Goals as goal

pub run_typed-requires-clause-ready : goal.run_typed-requires-clause-ready
run_typed-requires-clause-ready c =
    job_ready _ c.in-Ok.ensures

pub run_typed-requires-clause-types : goal.run_typed-requires-clause-types
run_typed-requires-clause-types c =
    job_long _ c.in-Ok.ensures

pub run_typed-requires-clause-nodes : goal.run_typed-requires-clause-nodes
run_typed-requires-clause-nodes c =
    job_code _ c.in-Ok.ensures

pub run_typed-requires-clause-vars : goal.run_typed-requires-clause-vars
run_typed-requires-clause-vars c =
    job_vars _ c.in-Ok.ensures

pub returns-in-Ok : goal.returns-in-Ok
returns-in-Ok c =
    job_settled _ c.in-Ok.ensures c.run_typed.ensures

pub returns-in-Err : goal.returns-in-Err
returns-in-Err c =
    job_stopped _ _ c.in-Err.ensures c.clear.ensures
