-- Sets of definitions as words of 64 bits: what an entry names without entering an element or a definition, and what a definition reaches.
-- Assumes nothing.
use Rattle.std.specs.Prelude.{◌≡◌, ◌↔◌, Bool, true, false, List, ℕ, zero, suc, ◌/◌, ◌%◌, ◌^◌, ◌<◌, eqb, length, get_or}
use Rattle.std.specs.Int.Bits.{bit_or}
use Rattle.meaning.specs.Types as Types
use Rattle.meaning.specs.Types.{Entry, Table, Defs, at}
use Rattle.meaning.specs.Formed.{Lower}

-- is the definition in the set: its binary digit, counted from the lowest, is 1
unfoldable pub bit : ℕ → ℕ → Bool
bit set zero = eqb (set % 2) 1
bit set (suc d) = bit (set / 2) d

-- is definition d in the i-th set
abbrev pub bit_at : List ℕ → ℕ → ℕ → Bool
bit_at sets i d = bit (get_or sets i 0) d

-- an entry's set from those of the entries that stand in it: a name has its definition alone, an element nothing
unfoldable pub set_of : List ℕ → Entry → ℕ
set_of masks Types.empty = 0
set_of masks Types.string = 0
set_of masks (Types.element l c) = 0
set_of masks (Types.pair a b) = bit_or (get_or masks a 0) (get_or masks b 0)
set_of masks (Types.union a b) = bit_or (get_or masks a 0) (get_or masks b 0)
set_of masks (Types.star a) = get_or masks a 0
set_of masks (Types.plus a) = get_or masks a 0
set_of masks (Types.opt a) = get_or masks a 0
set_of masks (Types.name d) = 2 ^ d

-- an entry that was read, when n stand before it: (), String, or one of lower entries
pub data Low (n : ℕ) : Entry → Type 0 where
  empty : Low n Types.empty
  string : Low n Types.string
  lower : {x : Entry} → Lower n x → Low n x

-- where what stands in an entry has a place among n sets, and a name's definition a place in a set
abbrev pub Inside : ℕ → Entry → Type 0
Inside n (Types.pair a b) = (a < n) × (b < n)
Inside n (Types.union a b) = (a < n) × (b < n)
Inside n (Types.star a) = a < n
Inside n (Types.plus a) = a < n
Inside n (Types.opt a) = a < n
Inside n (Types.name d) = d < 64
Inside n Types.empty = Unit {0}
Inside n Types.string = Unit {0}
Inside n (Types.element l c) = Unit {0}

-- a table of such entries
pub record Laid (T : Table) : Type 0 where
  pub low : (e : ℕ) → e < length T → Low e (at T e)

-- every entry's set is so
pub record Filled (T : Table) (masks : List ℕ) : Type 0 where
  pub filled : (e : ℕ) → e < length T → get_or masks e 0 ≡ set_of masks (at T e)

-- each definition's set is that of its entry
pub record Begun (D : Defs) (masks reach : List ℕ) : Type 0 where
  pub begun : (d : ℕ) → d < length D → get_or reach d 0 ≡ get_or masks (get_or D d 0) 0

-- a set, with another if it has definition k
unfoldable pub merged : ℕ → ℕ → ℕ → ℕ
merged set other k = elim (bit set k) [ true ↦ bit_or set other | false ↦ set ]

-- the set of definition k joined to each set that has it
pub record Joined (used k : ℕ) (before after : List ℕ) : Type 0 where
  pub joined : (d : ℕ) → d < used → get_or after d 0 ≡ merged (get_or before d 0) (get_or before k 0) k

-- a way from a definition to another, one after the other in the set of the one before
pub data Way (used : ℕ) (sets : List ℕ) : ℕ → ℕ → Type 0 where
  one : {i j : ℕ} → bit_at sets i j ≡ true → Way used sets i j
  on : {i m j : ℕ} → m < used → Way used sets i m → Way used sets m j → Way used sets i j

-- the sets have afterwards exactly what ways led to before
pub record Closed (used : ℕ) (before after : List ℕ) : Type 0 where
  pub closed : (i j : ℕ) → i < used → (bit_at after i j ≡ true) ↔ Way used before i j
