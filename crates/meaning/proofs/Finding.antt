-- Finding by number: what is found stands in the list and has every property that all rows have.
-- Assumes nothing.
use mathlib.Core.Path.{◌≡◌, refl, sym}
use mathlib.Core.Bool.{Bool, true, false, ◌&&◌}
use mathlib.Core.List.{List, [], ◌∷◌}
use mathlib.Core.Option.{Option, some}
use Prim.Native.Nat.{ℕ, zero, suc}
use borrow.Author.Tests.{eqb-true, eqb-false}
use lib.Dec.{eqb}
use lib.ListN.{get_elem?}
use Rattle.meaning.specs.Base.{find, is_some, At}
use Rattle.meaning.proofs.Lists.{absurd_option, never, both_true}

-- ROWS: a property of every row of a table is one of what is found in it
pub data Rows {A : Type 0} (P : ℕ → A → Type 0) : List (ℕ × A) → Type 0 where
  end : Rows P []
  ◌&◌ : {k : ℕ} {a : A} {rows : List (ℕ × A)} → P k a → Rows P rows → Rows P ((k, a) ∷ rows)

infixr 20 ◌&◌
found_here : {A : Type 0} (P : ℕ → A → Type 0) (k j : ℕ) (a b : A) (o : Option A) (c : Bool) → eqb k j ≡ c → (elim c as (λ _. Option A) [ true ↦ some b | false ↦ o ]) ≡ some a → P j b → (o ≡ some a → P k a) → P k a
found_here P k j a b o true e p h r = let same : b ≡ a = cc in rw (eqb-true k j e, ← same) h
found_here P k j a b o false e p h r = r p

pub find_row : {A : Type 0} {P : ℕ → A → Type 0} {rows : List (ℕ × A)} (k : ℕ) (a : A) → Rows P rows → find k rows ≡ some a → P k a
unfolding find
find_row k a end p = absurd_option p
find_row {P = P} k a (◌&◌ {k = j} {a = b} {rows = rows} h r) p = found_here P k j a b (find k rows) (eqb k j) refl p h (find_row k a r)

-- rows that pass a test, which computes
abbrev pub test_all : {A : Type 0} → (ℕ → A → Bool) → List (ℕ × A) → Bool
test_all b [] = true
test_all b (r ∷ rs) = b r.0 r.1 && test_all b rs

pub test_rows : {A : Type 0} (b : ℕ → A → Bool) (rows : List (ℕ × A)) → test_all b rows ≡ true → Rows (λ k a. b k a ≡ true) rows
test_rows b [] h = end
test_rows b (r ∷ rs) h = let both = both_true (b r.0 r.1) (test_all b rs) h in both.0 & test_rows b rs both.1

-- what is found stands somewhere
place_here : {A : Type 0} (v : ℕ) (r : ℕ × A) (l : List (ℕ × A)) (x : A) (c : Bool) → eqb v r.0 ≡ c → (elim c as (λ _. Option A) [ true ↦ some r.1 | false ↦ find v l ]) ≡ some x → (find v l ≡ some x → (i : ℕ) × At l i (v, x)) → (i : ℕ) × At (r ∷ l) i (v, x)
place_here v r l x true e p k = let same : r.1 ≡ x = cc in (0, record { is = λ i. some (sym (eqb-true v r.0 e) i, same i) })
place_here v r l x false e p k = let q = k p in (suc q.0, record { is = q.1.is })

pub find_at : {A : Type 0} (v : ℕ) (l : List (ℕ × A)) (x : A) → find v l ≡ some x → (i : ℕ) × At l i (v, x)
unfolding find
find_at v [] x p = absurd_option p
find_at v (r ∷ l) x p = place_here v r l x (eqb v r.0) refl p (find_at v l x)

-- a number that is not found stands nowhere
absent_here : {A : Type 0} (a : A) (o : Option A) (c : Bool) → is_some {A = A} (elim c as (λ _. Option A) [ true ↦ some a | false ↦ o ]) ≡ false → (c ≡ false) × (is_some o ≡ false)
absent_here a o true h = never (sym h)
absent_here a o false h = (refl, h)

pub find_absent : {A : Type 0} (v : ℕ) (l : List (ℕ × A)) (i : ℕ) (x : A) → is_some (find v l) ≡ false → get_elem? l i ≡ some (v, x) → ⊥
unfolding find
find_absent v [] i x h p = absurd_option p
find_absent v (r ∷ l) zero x h p =
    let same : r ≡ (v, x) = cc in
    eqb-false v r.0 (absent_here r.1 (find v l) (eqb v r.0) h).0 (λ i. (sym same i).0)
find_absent v (r ∷ l) (suc i) x h p = find_absent v l i x (absent_here r.1 (find v l) (eqb v r.0) h).1 p
