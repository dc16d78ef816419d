-- What the running program prints: a line for each entry of the result, then where it stands in the work table; or the refusal alone.
-- Assumes nothing.
use Rattle.std.specs.Prelude.{ℕ, List, ◌++◌}
use Rattle.meaning.specs.Base.{Out, ok, refused}
use Rattle.meaning.specs.Running.{work_words}
use Rattle.ran.specs.declared.Ran.{Ran}
use Rattle.ran.specs.Says.{ran_of}
use Rattle.emberstitch.specs.Promises.{job_ran}
use Rattle.report.specs.Text.{stretch_lines, stretch_line, refused_line}

-- of an answer, beside the work table
abbrev pub answer_text : List ℕ → Out Ran → List ℕ
answer_text work (ok r) = stretch_lines work r.first r.length ++ stretch_line r.first r.length
answer_text work (refused number place) = refused_line number place

-- of a job and values, with a type table, a query table and a work table of so many words
abbrev pub run_text : List ℕ → List ℕ → ℕ → ℕ → ℕ → List ℕ
run_text job values types query work = answer_text (work_words work (job_ran job values types query work)) (ran_of (job_ran job values types query work))
