-- What the writer of a query section is given, answers and leaves.
-- Assumes nothing.
use Rattle.std.specs.Prelude.{◌≡◌, List, ℕ, ◌+◌, ◌*◌, length, Result}
use Rattle.meaning.specs.Base.{Out, ok, refused, lent, find}
use Rattle.meaning.specs.Records.{forms}
use Rattle.meaning.specs.Texts.{field_count}
use Rattle.refusals.specs.declared.Refusal.{Refusal}
use Rattle.refusals.specs.Says.{out}

-- "Length is 4 + 2 per field"
abbrev pub size_of : ℕ → ℕ
size_of kind = 4 + 2 * field_count (find kind forms)

-- how long the section is, where there is one
abbrev pub long : Out (List ℕ) → Out ℕ
long (ok bytes) = ok (length bytes)
long (refused n place) = refused n place

-- WHAT THE WRITER LEAVES: its answer, and the lent buffer of so many bytes
pub record Left (room : ℕ) (r : Result ℕ Refusal) (buffer : List ℕ) (o : Out (List ℕ)) : Type 0 where
  pub answer : out (λ (n : ℕ). n) r ≡ long o
  pub bytes : buffer ≡ lent room (λ (bytes : List ℕ). bytes) o
