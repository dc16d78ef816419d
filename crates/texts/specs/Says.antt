-- What writing a job's query as text answers and leaves.
-- Assumes nothing.
use Rattle.std.specs.Prelude.{◌≡◌, List, ℕ, ◌-◌, length, Result}
use Rattle.meaning.specs.Base.{Out, ok, refused, ◌>>=◌}
use Rattle.meaning.specs.Records.{Tables}
use Rattle.meaning.specs.Queries.{query_at}
use Rattle.meaning.specs.Typing.{read_types, read_code}
use Rattle.meaning.specs.Written.{Spoken, spoken, spoken_of, text_bytes}
use Rattle.refusals.specs.declared.Refusal.{Refusal}
use Rattle.refusals.specs.Says.{told}
use Rattle.reading.specs.declared.Given.{Given}
use Rattle.reading.specs.Says.{Held}
use Rattle.texts.specs.declared.Text.{Text}

-- the answer: the text's length, and how many entries and nodes there are
abbrev pub seen : Spoken → Text
seen p = record { length = length p.text; types = length p.job.types; nodes = length p.job.code }

unfoldable pub answer_of : Out Spoken → Out Text
answer_of (ok p) = ok (seen p)
answer_of (refused n place) = refused n place

-- WHAT WRITING A TEXT LEAVES: its answer, the lent tables of so many words, and the lent buffer of so many bytes
pub record Left (tw cw room : ℕ) (r : Result Text Refusal) (u w b : List ℕ) (o : Out Spoken) : Type 0 where
  pub answer : told r ≡ answer_of o
  pub types : u ≡ read_types tw (spoken_of o)
  pub code : w ≡ read_code cw (spoken_of o)
  pub bytes : b ≡ text_bytes room o

-- the text of tables that were read
abbrev pub speaking : ℕ → Tables → Out Spoken
speaking room t = spoken room (query_at t.code (length t.code - 1)) >>= λ f. ok (record { job = t; text = f })

-- what is left of tables that are held
pub record Settled (types query : List ℕ) (room count nodes : ℕ) (r : Result Text Refusal) (u w b : List ℕ) : Type 0 where
  pub leaves : (t : Tables) (g : Given) → Held (length types) (length query) types query g count nodes t → Left (length types) (length query) room r u w b (speaking room t)
