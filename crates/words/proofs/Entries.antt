-- The entry that three words make, kind by kind, and as a view; and what stands in a lent table where its words are read.
-- Assumes nothing.
use mathlib.Core.Path.{◌≡◌, refl}
use mathlib.Core.Logic.{◌≢◌}
use mathlib.Core.Option.{none}
use Prim.Native.Nat.{ℕ, ◌<◌}
use native.Mathlib.Omega.{arith}
use native.Mathlib.Decide.{ℕ_discrete}
use borrow.Author.Tests.{ne_eqb}
use Rattle.meaning.specs.Base.{find}
use Rattle.meaning.specs.Types as Types
use Rattle.meaning.specs.Types.{Entry, entry_of, name_of, at}

module _ {k : ℕ} (a b : ℕ) where
  pub kind_string : k ≡ 2 → entry_of k a b ≡ Types.string
  unfolding entry_of find
  kind_string p = rw p

  pub kind_element : k ≡ 3 → entry_of k a b ≡ Types.element a b
  unfolding entry_of find
  kind_element p = rw p

  pub kind_pair : k ≡ 4 → entry_of k a b ≡ Types.pair a b
  unfolding entry_of find
  kind_pair p = rw p

  pub kind_union : k ≡ 5 → entry_of k a b ≡ Types.union a b
  unfolding entry_of find
  kind_union p = rw p

  pub kind_star : k ≡ 6 → entry_of k a b ≡ Types.star a
  unfolding entry_of find
  kind_star p = rw p

  pub kind_plus : k ≡ 7 → entry_of k a b ≡ Types.plus a
  unfolding entry_of find
  kind_plus p = rw p

  pub kind_opt : k ≡ 8 → entry_of k a b ≡ Types.opt a
  unfolding entry_of find
  kind_opt p = rw p

  pub kind_name : k ≡ 9 → entry_of k a b ≡ Types.name a
  unfolding entry_of find
  kind_name p = rw p

-- a kind that is none of 2 to 9
pub record Other (k : ℕ) : Type 0 where
  pub no_string : k ≢ 2
  pub no_element : k ≢ 3
  pub no_pair : k ≢ 4
  pub no_union : k ≢ 5
  pub no_star : k ≢ 6
  pub no_plus : k ≢ 7
  pub no_opt : k ≢ 8
  pub no_name : k ≢ 9

pub kind_other : {k : ℕ} (a b : ℕ) → Other k → entry_of k a b ≡ Types.empty
unfolding entry_of find
kind_other {k} a b o =
    simp (
      entry_of,
      find,
      ne_eqb k 2 o.no_string,
      ne_eqb k 3 o.no_element,
      ne_eqb k 4 o.no_pair,
      ne_eqb k 5 o.no_union,
      ne_eqb k 6 o.no_star,
      ne_eqb k 7 o.no_plus,
      ne_eqb k 8 o.no_opt,
      ne_eqb k 9 o.no_name,
    )

pub above : {k : ℕ} → 9 < k → Other k
above l =
    record { no_string = λ p. omega arith; no_element = λ p. omega arith; no_pair = λ p. omega arith; no_union = λ p. omega arith; no_star = λ p. omega arith; no_plus = λ p. omega arith; no_opt = λ p. omega arith; no_name = λ p. omega arith }

-- the entry x that the words k, a, b make
pub data Kinded (k a b : ℕ) : Entry → Type 0 where
  is_string : k ≡ 2 → Kinded k a b Types.string
  is_element : k ≡ 3 → Kinded k a b (Types.element a b)
  is_pair : k ≡ 4 → Kinded k a b (Types.pair a b)
  is_union : k ≡ 5 → Kinded k a b (Types.union a b)
  is_star : k ≡ 6 → Kinded k a b (Types.star a)
  is_plus : k ≡ 7 → Kinded k a b (Types.plus a)
  is_opt : k ≡ 8 → Kinded k a b (Types.opt a)
  is_name : k ≡ 9 → Kinded k a b (Types.name a)
  is_other : Other k → Kinded k a b Types.empty

pub kinded : (k a b : ℕ) → Kinded k a b (entry_of k a b)
kinded k a b = go (ℕ_discrete k 2) (ℕ_discrete k 3) (ℕ_discrete k 4) (ℕ_discrete k 5) (ℕ_discrete k 6) (ℕ_discrete k 7) (ℕ_discrete k 8) (ℕ_discrete k 9)
  where
    go : Dec (k ≡ 2) → Dec (k ≡ 3) → Dec (k ≡ 4) → Dec (k ≡ 5) → Dec (k ≡ 6) → Dec (k ≡ 7) → Dec (k ≡ 8) → Dec (k ≡ 9) → Kinded k a b (entry_of k a b)
    go (yes p) c d e f g h i = rw (kind_string a b p) (is_string p)
    go (no b2) (yes p) d e f g h i = rw (kind_element a b p) (is_element p)
    go (no b2) (no b3) (yes p) e f g h i = rw (kind_pair a b p) (is_pair p)
    go (no b2) (no b3) (no b4) (yes p) f g h i = rw (kind_union a b p) (is_union p)
    go (no b2) (no b3) (no b4) (no b5) (yes p) g h i = rw (kind_star a b p) (is_star p)
    go (no b2) (no b3) (no b4) (no b5) (no b6) (yes p) h i = rw (kind_plus a b p) (is_plus p)
    go (no b2) (no b3) (no b4) (no b5) (no b6) (no b7) (yes p) i = rw (kind_opt a b p) (is_opt p)
    go (no b2) (no b3) (no b4) (no b5) (no b6) (no b7) (no b8) (yes p) = rw (kind_name a b p) (is_name p)
    go (no b2) (no b3) (no b4) (no b5) (no b6) (no b7) (no b8) (no b9) =
        let o : Other k
        = record { no_string = b2; no_element = b3; no_pair = b4; no_union = b5; no_star = b6; no_plus = b7; no_opt = b8; no_name = b9 } in
        rw (kind_other a b o) (is_other o)

-- an entry of another kind than 9 is no name
plain_of : {k a b : ℕ} {x : Entry} → k ≢ 9 → Kinded k a b x → name_of x ≡ none
unfolding name_of
plain_of h (is_string p) = refl
plain_of h (is_element p) = refl
plain_of h (is_pair p) = refl
plain_of h (is_union p) = refl
plain_of h (is_star p) = refl
plain_of h (is_plus p) = refl
plain_of h (is_opt p) = refl
plain_of h (is_name p) = absurd (h p)
plain_of h (is_other o) = refl

pub plain : (k a b : ℕ) → k ≢ 9 → name_of (entry_of k a b) ≡ none
plain k a b h = plain_of h (kinded k a b)
