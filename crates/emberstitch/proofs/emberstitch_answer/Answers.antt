-- `emberstitch::emberstitch_answer` meets its contract: the tables have full capacity, and the number is the answer's. Assumes nothing.
use Rattle.emberstitch.proofs.Calls.{job_small, job_called}
use Rattle.emberstitch.proofs.emberstitch_answer.Goals as goal

pub number_of-requires : goal.number_of-requires
number_of-requires c =
    job_small c.answer_job.ensures

pub returns : goal.returns
returns c =
    job_called c.answer_job.ensures c.number_of.ensures
