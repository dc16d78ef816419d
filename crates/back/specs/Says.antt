-- What reading an answer file answers and leaves, by the definitions of `meaning`.
-- Assumes nothing.
use Rattle.std.specs.Prelude.{◌≡◌, List, ℕ, ◌*◌, ◌≤◌, length, take, Result}
use Rattle.std.specs.Prelude as Std
use Rattle.meaning.specs.Base.{Out, ok, refused, ◌>>=◌, given, padded, type_width}
use Rattle.meaning.specs.Types.{table_words}
use Rattle.meaning.specs.Records.{Tables}
use Rattle.meaning.specs.Checks.{check_types}
use Rattle.meaning.specs.Typing.{read_types}
use Rattle.meaning.specs.Answers as Answers
use Rattle.meaning.specs.Answers.{back_tables}
use Rattle.words.specs.Tables.{table_of}
use Rattle.words.specs.Says.{found}
use Rattle.refusals.specs.declared.Refusal.{Refusal}
use Rattle.refusals.specs.Says.{told}
use Rattle.guard.specs.Says as Guard
use Rattle.reading.specs.declared.Given.{Given}
use Rattle.reading.specs.declared.Read.{Read}
use Rattle.reading.specs.Says.{given_of, maybe}
use Rattle.back.specs.declared.Back.{Back}

-- the answer: the result and how many entries there are, with the definitions
abbrev pub seen : Answers.Back → Back
seen b = record { result = b.result; types = length b.tables.types; given = given_of b.tables }

unfoldable pub back_of : Out Answers.Back → Out Back
back_of (ok b) = ok (seen b)
back_of (refused n place) = refused n place

-- WHAT READING AN ANSWER FILE LEAVES: its answer, and the lent table of so many words
pub record Left (tw : ℕ) (r : Result Back Refusal) (u : List ℕ) (o : Out Answers.Back) : Type 0 where
  pub answer : told r ≡ back_of o
  pub types : u ≡ read_types tw (back_tables o)

-- a lent table and definitions as reading leaves them
pub record Ready (types : List ℕ) (count : ℕ) (g : Given) : Type 0 where
  pub inside : type_width * count ≤ length types
  pub listed : g.used ≤ length g.defs
  pub given : Guard.Given (table_of types count) (take g.used g.defs)
  pub few : length (table_of types count) ≤ 4096

-- 8, then 9 and 10; the result entry
unfoldable pub judged : ℕ → Std.Option ℕ → List ℕ → ℕ → Given → Out ℕ
judged bytes result types count g = do
  e ← given (found result) 8 bytes
  _ ← check_types (take g.used g.defs) (table_of types count)
  ok e

-- what is made of tables that were read
unfoldable pub ending : ℕ → Tables → Out Answers.Back
ending bytes t = do
  e ← given t.result 8 bytes
  _ ← check_types t.defs t.types
  ok (record { tables = t; result = e })

-- the table, the definitions and record 80 are those of t
pub record Holds (types : List ℕ) (read : Read) (t : Tables) : Type 0 where
  pub words : types ≡ padded (length types) (table_words t.types)
  pub entries : read.types ≡ length t.types
  pub is : read.given ≡ given_of t
  pub named : read.result ≡ maybe t.result

pub record Settled (bytes : ℕ) (read : Read) (types : List ℕ) (r : Result Back Refusal) (u : List ℕ) : Type 0 where
  pub leaves : (t : Tables) → Holds types read t → Left (length types) r u (ending bytes t)
