-- What the writer of an answer file is given, answers and leaves, in document 01's terms.
-- Assumes nothing.
use Rattle.std.specs.Prelude.{◌≡◌, List, ℕ, ◌<◌, length, Result}
use Rattle.meaning.specs.Base.{Out, ok, refused, lent}
use Rattle.meaning.specs.Types.{Table, Defs}
use Rattle.meaning.specs.Formed.{Formed}
use Rattle.refusals.specs.declared.Refusal.{Refusal}
use Rattle.refusals.specs.Says.{told}

-- a formed type table with its definitions, and an entry of it
pub record Ready (T : Table) (D : Defs) (result : ℕ) : Type 0 where
  pub formed : Formed D T
  pub low : result < length T

-- the answer: how long the file is
abbrev pub written_of : Out (List ℕ) → Out ℕ
written_of (ok file) = ok (length file)
written_of (refused n place) = refused n place

-- WHAT THE WRITER LEAVES: its answer, and the lent buffer of so many bytes
pub record Left (room : ℕ) (r : Result ℕ Refusal) (buffer : List ℕ) (o : Out (List ℕ)) : Type 0 where
  pub answer : told r ≡ written_of o
  pub bytes : buffer ≡ lent room (λ (file : List ℕ). file) o
