-- Marks of entries in a lent table, a word for each entry, as `meaning` has them; what is given to mark them; what marking leaves.
-- Assumes nothing.
use Rattle.std.specs.Prelude.{◌≡◌, Bool, true, false, not, cond, List, [], ◌∷◌, ◌⊎◌, ℕ, zero, suc, ◌+◌, ◌*◌, ◌≤◌, ◌<◌, eqb, length, get_or, take}
use Rattle.std.proofs.Math.Option.{some}
use Rattle.meaning.specs.Base.{In}
use Rattle.meaning.specs.Types.{Entry, Table, Defs, name_of}
use Rattle.meaning.specs.Reach.{steps_of}
use Rattle.meaning.specs.Formed.{Formed}

-- the marks of the first n entries: a word that is not 0 is a mark
unfoldable pub marks_of : ℕ → List ℕ → List Bool
marks_of zero ws = []
marks_of (suc n) [] = false ∷ marks_of n []
marks_of (suc n) (w ∷ ws) = not (eqb w 0) ∷ marks_of n ws

-- WHAT IS GIVEN. An entry's parts are among the first n entries, and a name's definition is there.
pub record Within (n : ℕ) (D : Defs) (x : Entry) : Type 0 where
  pub parts : (i : ℕ) → In i (steps_of true D x) → i < n
  pub named : (d : ℕ) → name_of x ≡ some d → d < length D

-- a type table, and a lent table of definitions that begins with the definitions D, as reading leaves them and typing keeps them
pub record Given (T : Table) (defs : List ℕ) (D : Defs) : Type 0 where
  pub formed : Formed D T
  pub listed : length D ≤ length defs
  pub taken : D ≡ take (length D) defs

-- how many of the first n entries have no mark
unfoldable pub blank : ℕ → List ℕ → ℕ
blank zero ms = 0
blank (suc n) ms = cond (eqb (get_or ms n 0) 0) 1 0 + blank n ms

-- an entry has a mark; it is one of those to visit, so many words behind the marks
abbrev pub Seen : List ℕ → ℕ → Type 0
Seen ms i = get_or ms i 0 ≡ 0 → ⊥

pub record Listed (count : ℕ) (ms : List ℕ) (left i : ℕ) : Type 0 where
  pub place : ℕ
  pub low : place < left
  pub is : get_or ms (count + place) 0 ≡ i

-- there is room for as many entries to visit as have no mark
pub record Room (ms : List ℕ) (count left : ℕ) : Type 0 where
  pub most : count ≤ 4096
  pub long : 2 * count ≤ length ms
  pub few : left + blank count ms ≤ count

-- WHAT IS LEFT. The entries of a list are marked, and those that had no mark are to be visited.
pub record Grew (count : ℕ) (before after : List ℕ) (left r : ℕ) (xs : List ℕ) : Type 0 where
  pub long : length after ≡ length before
  pub room : r + blank count after ≡ left + blank count before
  pub more : left ≤ r
  pub kept : (i : ℕ) → i < count → Seen before i → Seen after i
  pub new : (i : ℕ) → i < count → Seen after i → Seen before i ⊎ (In i xs × Listed count after r i)
  pub same : (j : ℕ) → j < left → get_or after (count + j) 0 ≡ get_or before (count + j) 0
  pub added : (j : ℕ) → left ≤ j → j < r → In (get_or after (count + j) 0) xs
  pub done : (x : ℕ) → In x xs → Seen after x
