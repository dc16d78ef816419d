-- What every page uses: answers with refusals, finding by number, the lowest number that passes a test, little-endian words, lent tables.
-- Assumes nothing.
use Rattle.std.specs.Prelude.{◌≡◌, ℕ, zero, suc, ◌+◌, ◌*◌, ◌-◌, ◌/◌, ◌%◌, min, Bool, true, false, List, [], ◌∷◌, ◌++◌, eqb, length, get_or, replicate}
use Rattle.std.proofs.Math.Option.{Option, none, some}
use Rattle.std.proofs.Math.ListN.{get_elem?}

-- ANSWERS. An answer, or a refusal: its number and its place ("Refusals in order").
pub data Out (A : Type 0) : Type 0 where
  ok : A → Out A
  refused : ℕ → ℕ → Out A

infixl 10 ◌>>=◌
abbrev pub ◌>>=◌ : {A B : Type 0} → Out A → (A → Out B) → Out B
◌>>=◌ (ok a) f = f a
◌>>=◌ (refused n place) f = refused n place

-- the refusal where a test fails
abbrev pub require : Bool → ℕ → ℕ → Out (Unit {0})
require true n place = ok tt
require false n place = refused n place

-- the refusal where there is nothing
abbrev pub given : {A : Type 0} → Option A → ℕ → ℕ → Out A
given none n place = refused n place
given (some a) n place = ok a

-- the refusal at the place that was found, if one was
abbrev pub refuse_at : ℕ → Option ℕ → Out (Unit {0})
refuse_at n none = ok tt
refuse_at n (some place) = refused n place

-- FINDING. What the first row with this number has.
unfoldable pub find : {A : Type 0} → ℕ → List (ℕ × A) → Option A
find k [] = none
find k (r ∷ rs) = elim (eqb k r.0) [ true ↦ some r.1 | false ↦ find k rs ]

abbrev pub otherwise : {A : Type 0} → A → Option A → A
otherwise d none = d
otherwise d (some a) = a

abbrev pub is_some : {A : Type 0} → Option A → Bool
is_some none = false
is_some (some a) = true

-- x stands at place n of a list
pub record At {A : Type 0} (l : List A) (n : ℕ) (x : A) : Type 0 where
  pub is : get_elem? l n ≡ some x

-- x stands in a list
pub data In {A : Type 0} (x : A) : List A → Type 0 where
  first : {l : List A} → In x (x ∷ l)
  later : {y : A} {l : List A} → In x l → In x (y ∷ l)

-- the lowest of i, i + 1, .. (n of them) that passes a test, and the lowest below n
unfoldable pub lowest_from : (ℕ → Bool) → ℕ → ℕ → Option ℕ
lowest_from f i zero = none
lowest_from f i (suc n) = elim (f i) [ true ↦ some i | false ↦ lowest_from f (suc i) n ]

abbrev pub lowest : (ℕ → Bool) → ℕ → Option ℕ
lowest f n = lowest_from f 0 n

-- those of i, i + 1, .. (n of them) that pass a test, in order
unfoldable pub kept_from : (ℕ → Bool) → ℕ → ℕ → List ℕ
kept_from f i zero = []
kept_from f i (suc n) = elim (f i) [ true ↦ i ∷ kept_from f (suc i) n | false ↦ kept_from f (suc i) n ]

-- how often x stands in a list
unfoldable pub count : ℕ → List ℕ → ℕ
count x [] = 0
count x (y ∷ ys) = elim (eqb x y) [ true ↦ suc (count x ys) | false ↦ count x ys ]

unfoldable pub concat_map : {A B : Type 0} → (A → List B) → List A → List B
concat_map f [] = []
concat_map f (x ∷ xs) = f x ++ concat_map f xs

-- WORDS. "Little-endian 16-bit words": the word at a byte offset, and the bytes of words.
abbrev pub word : List ℕ → ℕ → ℕ
word s at = get_or s at 0 + 256 * get_or s (at + 1) 0

unfoldable pub bytes_of : List ℕ → List ℕ
bytes_of [] = []
bytes_of (w ∷ ws) = w % 256 ∷ w / 256 ∷ bytes_of ws

-- LENT TABLES AND BUFFERS. "zeros after the entries or the answer": n places that begin so.
unfoldable pub zeros : ℕ → List ℕ
zeros n = replicate n 0

abbrev pub padded : ℕ → List ℕ → List ℕ
padded n ws = ws ++ zeros (n - length ws)

-- "A refusal leaves every word of the lent tables, and every byte of a lent answer buffer, zero. Accepting gives .. zeros after the entries or the
-- answer": a lent table or buffer of n places after an answer that puts these words there.
abbrev pub lent : {A : Type 0} → ℕ → (A → List ℕ) → Out A → List ℕ
lent n words (ok a) = padded n (words a)
lent n words (refused k place) = zeros n

-- "A type entry is three words"; "A query entry is four words"; "A forest entry is three words"
abbrev pub type_width : ℕ
type_width = 3

abbrev pub code_width : ℕ
code_width = 4

abbrev pub forest_width : ℕ
forest_width = 3

-- "Capacity is words/3, at most 4,096"; "words/4, at most 1,024"; "words/3, at most 8,192"
abbrev pub type_capacity : ℕ → ℕ
type_capacity words = min (words / type_width) 4096

abbrev pub code_capacity : ℕ → ℕ
code_capacity words = min (words / code_width) 1024

abbrev pub work_capacity : ℕ → ℕ
work_capacity words = min (words / forest_width) 8192

-- the capacities of the type table and of the query table
pub record Caps : Type 0 where
  pub types : ℕ
  pub code : ℕ

abbrev pub caps_of : ℕ → ℕ → Caps
caps_of types code = record { types = type_capacity types; code = code_capacity code }
