-- What the writer of a query's text is given, answers and leaves.
-- Assumes nothing.
use Rattle.std.specs.Prelude as Std
use Rattle.std.specs.Prelude.{◌≡◌, Bool, true, false, ◌||◌, Result, List, [], ◌∷◌, ℕ, suc, ◌-◌, min, ◌≤◌, ◌<◌, ltb, eqb, length, take}
use Rattle.std.proofs.Math.Option.{Option, none, some}
use Rattle.meaning.specs.Base.{Out, ok, ◌>>=◌, count, lent}
use Rattle.meaning.specs.Records.{Node, node_at, is_condition}
use Rattle.meaning.specs.Checks.{uses}
use Rattle.meaning.specs.Queries.{Query, query_at}
use Rattle.meaning.specs.Written.{Piece, is_wide, over, deep_query, least, text_of}
use Rattle.refusals.specs.declared.Refusal.{Refusal}
use Rattle.refusals.specs.Says.{told}
use Rattle.words.specs.Says.{found}
use Rattle.uses.specs.Counts.{Lowers}
use Rattle.written.specs.declared.Told.{Told}

-- the query table of a job that was read: the last node is no condition, and each other one is used once
pub record Ready (C : List Node) : Type 0 where
  pub lowers : Lowers C
  pub rooted : 0 < length C
  pub root : is_condition (node_at C (length C - 1)).kind ≡ false
  pub once : (q : ℕ) → q < length C - 1 → count q (uses C) ≡ 1

-- its query
abbrev pub root_of : List Node → Query
root_of C = query_at C (length C - 1)

-- THE LOWEST NODE THAT OPENS TOO DEEP: the one so far, and one more; those that a node adds; and how many are open inside it, where 100 count as more
abbrev pub lowered : Option ℕ → ℕ → Option ℕ
lowered none n = some n
lowered (some m) n = some (min m n)

unfoldable pub joined : Option ℕ → List ℕ → Option ℕ
joined o [] = o
joined o (n ∷ ns) = joined (lowered o n) ns

abbrev pub owns : Bool → ℕ → ℕ → List ℕ
owns true d n = over d n
owns false d n = []

abbrev pub next : ℕ → ℕ
next d = elim (ltb d 100) [ true ↦ suc d | false ↦ d ]

abbrev pub inside : Bool → ℕ → ℕ
inside true d = next d
inside false d = d

-- whether a piece has a space before it: behind one that may want a space beside it
abbrev pub spaced : Std.Option Bool → Piece → Bool
spaced Std.None p = false
spaced (Std.Some wide) p = wide || is_wide p

-- what the walk over a query tells: how long its text is, and the lowest node that opens too deep; where there is room the text is in the buffer
pub record Tells (q : Query) (r : Told) (before after : List ℕ) : Type 0 where
  pub long : length after ≡ length before
  pub size : r.bytes ≡ length (text_of q)
  pub deep : found r.deep ≡ least (deep_query true 0 q)
  pub holds : r.bytes ≤ length before → take r.bytes after ≡ text_of q

-- WHAT THE WRITER LEAVES: its answer, which is how long the text is, or the refusal; and the lent buffer of so many bytes
pub record Left (room : ℕ) (r : Result ℕ Refusal) (buffer : List ℕ) (o : Out (List ℕ)) : Type 0 where
  pub answer : told r ≡ (o >>= λ bytes. ok (length bytes))
  pub bytes : buffer ≡ lent room (λ (bytes : List ℕ). bytes) o
