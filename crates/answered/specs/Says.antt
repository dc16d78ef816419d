-- What answering a job answers and leaves, in document 01's terms.
-- Assumes nothing.
use Rattle.std.specs.Prelude.{◌≡◌, List, ℕ, ◌*◌, ◌≤◌, length, take, Result}
use Rattle.meaning.specs.Base.{Out, ok, refused, ◌>>=◌, type_width, code_width}
use Rattle.meaning.specs.Typing.{Typed, typed_types, typed_code}
use Rattle.meaning.specs.Answers as Answers
use Rattle.meaning.specs.Answers.{answer_file, fitted, typed_of, answer_bytes}
use Rattle.words.specs.Tables.{table_of}
use Rattle.refusals.specs.declared.Refusal.{Refusal}
use Rattle.refusals.specs.Says.{told}
use Rattle.reading.specs.Says.{given_of}
use Rattle.answers.specs.Says as Writes
use Rattle.typed.specs.declared.Typed as Code
use Rattle.typed.specs.Says.{Holds}
use Rattle.answered.specs.declared.Answered.{Answered}

-- the answer: the file's length, the result's entry, and how many entries and nodes there are, with the definitions and the variables
abbrev pub seen : Answers.Answered → Answered
seen a = record { length = length a.file; result = a.typed.result; types = length a.typed.left.types; nodes = length a.typed.job.code; given = given_of a.typed.job }

unfoldable pub answered_of : Out Answers.Answered → Out Answered
answered_of (ok a) = ok (seen a)
answered_of (refused n place) = refused n place

-- WHAT ANSWERING A JOB LEAVES: its answer, the lent tables of so many words, and the lent buffer of so many bytes
pub record Left (tw cw room : ℕ) (r : Result Answered Refusal) (u w b : List ℕ) (o : Out Answers.Answered) : Type 0 where
  pub answer : told r ≡ answered_of o
  pub types : u ≡ typed_types tw (typed_of o)
  pub code : w ≡ typed_code cw (typed_of o)
  pub bytes : b ≡ answer_bytes room o

-- a typed job's file, if it fits
abbrev pub answering : ℕ → Typed → Out Answers.Answered
answering room t = fitted room (answer_file t.left.types t.job.defs t.result) >>= λ f. ok (record { typed = t; file = f })

-- lent tables as typing leaves them: a formed table with its definitions, and the query's nodes
pub record Ready (types query : List ℕ) (j : Code.Typed) : Type 0 where
  pub table : Writes.Ready (table_of types j.types) (take j.given.used j.given.defs) j.result
  pub types_inside : type_width * j.types ≤ length types
  pub defs_inside : j.given.used ≤ length j.given.defs
  pub code_inside : code_width * j.nodes ≤ length query

-- what is left after typing
pub record Settled (types query : List ℕ) (room : ℕ) (j : Code.Typed) (r : Result Answered Refusal) (u w b : List ℕ) : Type 0 where
  pub leaves : (t : Typed) → Holds types query j t → Left (length types) (length query) room r u w b (answering room t)
