-- Answer files: written after typing (17), and read back (1 to 6, 8 to 10); the number that the C layout engine gets.
-- Assumes nothing.
use Rattle.std.specs.Prelude.{ℕ, ◌+◌, ◌*◌, ◌^◌, List, [], ◌∷◌, ◌++◌, leb, length, drop}
use Rattle.meaning.specs.Base.{Out, ok, refused, ◌>>=◌, require, given, concat_map, bytes_of, lent, Caps}
use Rattle.meaning.specs.Kinds.{record·definition, record·result}
use Rattle.meaning.specs.Types.{Entry, Table, Defs, kind_of, fields_of}
use Rattle.meaning.specs.Records.{Tables, answer, read_records}
use Rattle.meaning.specs.Checks.{check_types}
use Rattle.meaning.specs.Typing.{Typed, type_job}

-- "length of the whole record in bytes, kind, fields. Length is 4 + 2 per field."
abbrev pub record_of : ℕ → List ℕ → List ℕ
record_of kind ws = bytes_of ((4 + 2 * length ws) ∷ kind ∷ ws)

abbrev pub type_record : Entry → List ℕ
type_record x = record_of (kind_of x) (fields_of x)

abbrev pub def_record : ℕ → List ℕ
def_record e = record_of record·definition (e ∷ [])

-- "An answer file is the type records from entry 2 on, the definition records, and record 80 (result entry)."
unfoldable pub answer_file : Table → Defs → ℕ → List ℕ
answer_file t D e = concat_map type_record (drop 2 t) ++ (concat_map def_record D ++ record_of record·result (e ∷ []))

-- a job's answer: how it was typed, and the file
pub record Answered : Type 0 where
  pub typed : Typed
  pub file : List ℕ

-- 17 "answer buffer too short", at the bytes needed
abbrev pub fitted : ℕ → List ℕ → Out (List ℕ)
fitted room file = do
  _ ← require (leb (length file) room) 17 (length file)
  ok file

-- ANSWERING A JOB, into a buffer of so many bytes: refusals 1 to 17
unfoldable pub answer_job : Caps → ℕ → List ℕ → Out Answered
answer_job caps room s = do
  t ← type_job caps s
  file ← fitted room (answer_file t.left.types t.job.defs t.result)
  ok (record { typed = t; file = file })

-- the typing in an answer, for the lent tables; and the lent buffer of so many bytes
abbrev pub typed_of : Out Answered → Out Typed
typed_of o = o >>= λ r. ok r.typed

abbrev pub answer_bytes : ℕ → Out Answered → List ℕ
answer_bytes bytes o = lent bytes (λ (r : Answered). r.file) o

-- "The tables behind this call have full capacity."
abbrev pub full : Caps
full = record { types = 4096; code = 1024 }

-- "the answer's length or 2^32 times the refusal plus the place"
abbrev pub packed : Out Answered → ℕ
packed (ok r) = length r.file
packed (refused n place) = 2 ^ 32 * n + place

-- an answer file that was read: its tables and the result's entry
pub record Back : Type 0 where
  pub tables : Tables
  pub result : ℕ

-- READING AN ANSWER FILE: "refusals 1 to 6, then 8 at the file's length if record 80 is missing, then 9 and 10"
unfoldable pub read_answer : Caps → List ℕ → Out Back
read_answer caps s = do
  t ← read_records answer caps s
  e ← given t.result 8 (length s)
  _ ← check_types t.defs t.types
  ok (record { tables = t; result = e })

-- the tables in what was read, for the lent type table
abbrev pub back_tables : Out Back → Out Tables
back_tables o = o >>= λ r. ok r.tables
