-- Sums over numbers below one, and over a list: where each number stands in the list at most once, the list's sum is no more.
-- Assumes nothing.
use mathlib.Core.Path.{◌≡◌, refl, ap}
use mathlib.Core.Bool.{Bool, true, false}
use mathlib.Core.Logic.{◌≢◌}
use mathlib.Core.List.{List, [], ◌∷◌, ◌++◌}
use Prim.Native.Nat.{ℕ, zero, suc, ◌+◌, ◌≤◌, ◌<◌}
use native.Mathlib.Omega.{arith}
use lib.Dec.{eqb}
use borrow.Author.Tests.{eqb-true, eqb-false}
use Rattle.meaning.specs.Base.{In, first, later, count}

unfoldable pub sum_to : (ℕ → ℕ) → ℕ → ℕ
sum_to f zero = 0
sum_to f (suc n) = sum_to f n + f n

unfoldable pub sum_of : (ℕ → ℕ) → List ℕ → ℕ
sum_of f [] = 0
sum_of f (m ∷ ms) = f m + sum_of f ms

pub sum_append : (f : ℕ → ℕ) (ms ns : List ℕ) → sum_of f (ms ++ ns) ≡ sum_of f ms + sum_of f ns
unfolding sum_of
sum_append f [] ns = omega arith
sum_append f (m ∷ ms) ns = omega (arith, sum_append f ms ns)

-- all are below a number
unfoldable Below : ℕ → List ℕ → Type 0
Below k [] = Unit {0}
Below k (m ∷ ms) = (m < k) × Below k ms

below_all : (k : ℕ) (ms : List ℕ) → ((m : ℕ) → In m ms → m < k) → Below k ms
unfolding Below
below_all k [] h = tt
below_all k (m ∷ ms) h = (h m first, below_all k ms (λ i p. h i (later p)))

-- the list without a number
unfoldable without : ℕ → List ℕ → List ℕ
without k [] = []
without k (m ∷ ms) = elim (eqb k m) [ true ↦ without k ms | false ↦ m ∷ without k ms ]

abbrev Kept : ℕ → ℕ → List ℕ → Bool → List ℕ
Kept k m ms b = elim b as (λ _. List ℕ) [ true ↦ without k ms | false ↦ m ∷ without k ms ]

abbrev Counted : ℕ → List ℕ → Bool → ℕ
Counted k ms b = elim b as (λ _. ℕ) [ true ↦ suc (count k ms) | false ↦ count k ms ]

below_step : (k m : ℕ) (ms : List ℕ) (b : Bool) → eqb k m ≡ b → m < suc k → Below k (without k ms) → Below k (Kept k m ms b)
unfolding Below
below_step k m ms true e h r = r
below_step k m ms false e h r =
    let n : k ≢ m = eqb-false k m e in
    let l : m < k = omega (arith, n) in
    (l, r)

below_without : (k : ℕ) (ms : List ℕ) → Below (suc k) ms → Below k (without k ms)
unfolding Below without
below_without k [] h = tt
below_without k (m ∷ ms) h = below_step k m ms (eqb k m) refl h.0 (below_without k ms h.1)

-- others stand there no more often
count_step : (q k m : ℕ) (ms : List ℕ) (b c : Bool) → eqb q m ≡ c → count q (without k ms) ≤ count q ms → count q (Kept k m ms b) ≤ Counted q ms c
unfolding count
count_step q k m ms true true e h = omega arith
count_step q k m ms true false e h = h
count_step q k m ms false true e h =
    let p : count q (m ∷ without k ms) ≡ suc (count q (without k ms)) = ap (Counted q (without k ms)) e in
    omega (arith, p)
count_step q k m ms false false e h =
    let p : count q (m ∷ without k ms) ≡ count q (without k ms) = ap (Counted q (without k ms)) e in
    omega (arith, p)

count_without : (q k : ℕ) (ms : List ℕ) → count q (without k ms) ≤ count q ms
unfolding count without
count_without q k [] = omega arith
count_without q k (m ∷ ms) = count_step q k m ms (eqb k m) (eqb q m) refl (count_without q k ms)

-- the number's own part
module _ (f : ℕ → ℕ) where
  none_step : (k m : ℕ) (ms : List ℕ) (b : Bool) → Counted k ms b ≤ 0 → (count k ms ≤ 0 → sum_of f ms ≤ sum_of f (without k ms)) → f m + sum_of f ms ≤ sum_of f (Kept k m ms b)
  unfolding sum_of
  none_step k m ms true h r = absurd (omega arith)
  none_step k m ms false h r = omega (arith, r h)

  none_without : (k : ℕ) (ms : List ℕ) → count k ms ≤ 0 → sum_of f ms ≤ sum_of f (without k ms)
  unfolding sum_of count without
  none_without k [] h = omega arith
  none_without k (m ∷ ms) h = none_step k m ms (eqb k m) h (none_without k ms)

  once_step : (k m : ℕ) (ms : List ℕ) (b : Bool) → eqb k m ≡ b → Counted k ms b ≤ 1 → (count k ms ≤ 1 → sum_of f ms ≤ f k + sum_of f (without k ms)) → f m + sum_of f ms ≤ f k + sum_of f (Kept k m ms b)
  unfolding sum_of
  once_step k m ms true e h r = omega (arith, ap f (eqb-true k m e), none_without k ms (omega arith))
  once_step k m ms false e h r = omega (arith, r h)

  once_without : (k : ℕ) (ms : List ℕ) → count k ms ≤ 1 → sum_of f ms ≤ f k + sum_of f (without k ms)
  unfolding sum_of count without
  once_without k [] h = omega arith
  once_without k (m ∷ ms) h = once_step k m ms (eqb k m) refl h (once_without k ms)

  sum_below : (k : ℕ) (ms : List ℕ) → Below k ms → ((q : ℕ) → q < k → count q ms ≤ 1) → sum_of f ms ≤ sum_to f k
  unfolding sum_of sum_to Below
  sum_below zero [] b h = omega arith
  sum_below zero (m ∷ ms) b h = let l : m < 0 = b.0 in absurd (omega arith)
  sum_below (suc k) ms b h =
      omega (arith, once_without k ms (h k (omega arith)), sum_below k (without k ms) (below_without k ms b) (λ q l. omega (arith, count_without q k ms, h q (omega arith))))

  -- WHERE EACH STANDS THERE AT MOST ONCE
  pub sum_once : (k : ℕ) (ms : List ℕ) → ((m : ℕ) → In m ms → m < k) → ((q : ℕ) → q < k → count q ms ≤ 1) → sum_of f ms ≤ sum_to f k
  sum_once k ms h c = sum_below k ms (below_all k ms h) c
