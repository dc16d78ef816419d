-- What the typing program prints: a line for each entry of the type table, then the result; or the refusal alone.
-- Assumes nothing.
use Rattle.std.specs.Prelude.{ℕ, List, ◌++◌}
use Rattle.meaning.specs.Base.{Out, ok, refused}
use Rattle.meaning.specs.Typing.{typed_types}
use Rattle.typed.specs.declared.Typed.{Typed}
use Rattle.typed.specs.Says.{typed_of}
use Rattle.emberstitch.specs.Promises.{job_typed}
use Rattle.report.specs.Text.{stretch_lines, result_line, refused_line}

-- of an answer, beside the type table
abbrev pub answer_text : List ℕ → Out Typed → List ℕ
answer_text types (ok t) = stretch_lines types 0 t.types ++ result_line t.result
answer_text types (refused number place) = refused_line number place

-- of a job, with a type table and a query table of so many words
abbrev pub typing_text : List ℕ → ℕ → ℕ → List ℕ
typing_text job types query = answer_text (typed_types types (job_typed job types query)) (typed_of (job_typed job types query))
