-- What each public operation promises: one predicate over its bytes, the lengths of what it is lent, its answer, and the final contents.
-- Assumes nothing.
use Rattle.std.specs.Prelude.{◌≡◌, List, ℕ, ◌+◌, ◌*◌, ◌<◌, length, Result, Ok, Err}
use Rattle.meaning.specs.Base.{Out, ok, refused, lent, caps_of, work_capacity}
use Rattle.meaning.specs.Records.{Tables}
use Rattle.meaning.specs.Typing as Typing
use Rattle.meaning.specs.Typing.{read_types, read_code, typed_types, typed_code, type_job}
use Rattle.meaning.specs.Checks.{read_job}
use Rattle.meaning.specs.Answers as Answers
use Rattle.meaning.specs.Answers.{answer_job, answer_bytes, back_tables, read_answer, full, packed}
use Rattle.meaning.specs.Running as Running
use Rattle.meaning.specs.Texts.{parse_text}
use Rattle.meaning.specs.Written.{Spoken, write_text, spoken_of, text_bytes}
use Rattle.meaning.specs.Running.{run_job, ran_typed, work_words}
use Rattle.refusals.specs.declared.Refusal.{Refusal}
use Rattle.refusals.specs.Says as Refusals
use Rattle.refusals.specs.Says.{told}
use Rattle.jobs.specs.declared.Job.{Job}
use Rattle.jobs.specs.Says.{job_of}
use Rattle.typed.specs.declared.Typed.{Typed}
use Rattle.typed.specs.Says.{typed_of}
use Rattle.answered.specs.declared.Answered.{Answered}
use Rattle.answered.specs.Says.{answered_of}
use Rattle.back.specs.declared.Back.{Back}
use Rattle.back.specs.Says.{back_of}
use Rattle.ran.specs.declared.Ran.{Ran}
use Rattle.ran.specs.Says.{ran_of}
use Rattle.texts.specs.declared.Text.{Text}
use Rattle.texts.specs.Says.{answer_of}

-- what reading gives for these bytes, with type and query tables of so many words
abbrev pub job_read : List ℕ → ℕ → ℕ → Out Tables
job_read job types query = read_job (caps_of types query) job

-- READING A JOB: the answer is 01's; accepted, the tables have the entries and the nodes, then zeros; refused, they are zero
pub record ReadJob (job : List ℕ) (types query : ℕ) (r : Result Job Refusal) (types_after query_after : List ℕ) : Type 0 where
  pub answer : told r ≡ job_of (job_read job types query)
  pub types_left : types_after ≡ read_types types (job_read job types query)
  pub query_left : query_after ≡ read_code query (job_read job types query)

-- what typing gives for them
abbrev pub job_typed : List ℕ → ℕ → ℕ → Out Typing.Typed
job_typed job types query = type_job (caps_of types query) job

-- TYPING A JOB: the answer is 01's; accepted, the tables have the entries as typing leaves them and the nodes, then zeros; refused, they are zero
pub record TypeJob (job : List ℕ) (types query : ℕ) (r : Result Typed Refusal) (types_after query_after : List ℕ) : Type 0 where
  pub answer : told r ≡ typed_of (job_typed job types query)
  pub types_left : types_after ≡ typed_types types (job_typed job types query)
  pub query_left : query_after ≡ typed_code query (job_typed job types query)

-- what answering gives for them, with a buffer of so many bytes
abbrev pub job_answered : List ℕ → ℕ → ℕ → ℕ → Out Answers.Answered
job_answered job types query bytes = answer_job (caps_of types query) bytes job

-- ANSWERING A JOB: the answer is 01's; accepted, the tables are as typing leaves them and the buffer has the answer file, then zeros; refused, all are
-- zero
pub record AnswerJob (job : List ℕ) (types query bytes : ℕ) (r : Result Answered Refusal) (types_after query_after answer_after : List ℕ) : Type 0 where
  pub answer : told r ≡ answered_of (job_answered job types query bytes)
  pub types_left : types_after ≡ typed_types types (Answers.typed_of (job_answered job types query bytes))
  pub query_left : query_after ≡ typed_code query (Answers.typed_of (job_answered job types query bytes))
  pub answer_left : answer_after ≡ answer_bytes bytes (job_answered job types query bytes)

-- what reading an answer file gives, with a type table of so many words; such a file has no query
abbrev pub file_read : List ℕ → ℕ → Out Answers.Back
file_read file types = read_answer (caps_of types 0) file

-- READING AN ANSWER FILE: the answer is 01's; accepted, the table has the entries, then zeros; refused, it is zero
pub record ReadAnswer (file : List ℕ) (types : ℕ) (r : Result Back Refusal) (types_after : List ℕ) : Type 0 where
  pub answer : told r ≡ back_of (file_read file types)
  pub types_left : types_after ≡ read_types types (back_tables (file_read file types))

-- what running gives for them on these values, with a work table of so many words
abbrev pub job_ran : List ℕ → List ℕ → ℕ → ℕ → ℕ → Out Running.Ran
job_ran job values types query work = run_job (caps_of types query) (work_capacity work) job values

-- RUNNING A JOB: the answer is 01's; accepted, the type and query tables are as typing leaves them and the work table has the values, the result, then
-- zeros; refused, all are zero
pub record RunJob (job values : List ℕ) (types query work : ℕ) (r : Result Ran Refusal) (types_after query_after work_after : List ℕ) : Type 0 where
  pub answer : told r ≡ ran_of (job_ran job values types query work)
  pub types_left : types_after ≡ typed_types types (ran_typed (job_ran job values types query work))
  pub query_left : query_after ≡ typed_code query (ran_typed (job_ran job values types query work))
  pub work_left : work_after ≡ work_words work (job_ran job values types query work)

-- how long the section of a text is
abbrev pub parsed_of : Out (List ℕ) → Out ℕ
parsed_of (ok section) = ok (length section)
parsed_of (refused n place) = refused n place

-- PARSING A TEXT: the answer is the request's; accepted, the buffer has the query section, then zeros; refused, it is zero
pub record ParseText (text : List ℕ) (bytes : ℕ) (r : Result ℕ Refusal) (section_after : List ℕ) : Type 0 where
  pub answer : told r ≡ parsed_of (parse_text bytes text)
  pub section_left : section_after ≡ lent bytes (λ (section : List ℕ). section) (parse_text bytes text)

-- what writing a job's query gives, with tables of so many words and a buffer of so many bytes
abbrev pub job_written : List ℕ → ℕ → ℕ → ℕ → Out Spoken
job_written job types query bytes = write_text (caps_of types query) bytes job

-- WRITING A TEXT: the answer is the request's; accepted, the tables are as reading leaves them and the buffer has the text, then zeros; refused, all are zero
pub record WriteText (job : List ℕ) (types query bytes : ℕ) (r : Result Text Refusal) (types_after query_after text_after : List ℕ) : Type 0 where
  pub answer : told r ≡ answer_of (job_written job types query bytes)
  pub types_left : types_after ≡ read_types types (spoken_of (job_written job types query bytes))
  pub query_left : query_after ≡ read_code query (spoken_of (job_written job types query bytes))
  pub text_left : text_after ≡ text_bytes bytes (job_written job types query bytes)

-- THE C CALL: the number is 01's, "the answer's length or 2^32 times the refusal plus the place", of answering at full capacity; accepted, the buffer
-- has the answer file, then zeros; refused, it is zero
pub record Call (job : List ℕ) (bytes r : ℕ) (answer_after : List ℕ) : Type 0 where
  pub number : r ≡ packed (answer_job full bytes job)
  pub answer_left : answer_after ≡ answer_bytes bytes (answer_job full bytes job)

-- the number of an answer, and when it fits 64 bits
abbrev pub number_of : Result Answered Refusal → ℕ
number_of (Ok a) = a.length
number_of (Err r) = 4294967296 * Refusals.number_of r.reason + r.place

abbrev pub Small : Result Answered Refusal → Type 0
Small (Ok a) = Unit {0}
Small (Err r) = r.place < 4294967296
