-- Runs of bytes that pass a test.
-- Assumes nothing.
use mathlib.Core.Path.{◌≡◌, refl, sym, ap, ◌∙◌}
use mathlib.Core.Bool.{Bool, true, false, not}
use mathlib.Core.List.{List, [], ◌∷◌}
use Prim.Native.Nat.{ℕ, zero, suc, ◌+◌, ◌≤◌, ◌<◌}
use native.Mathlib.Omega.{arith}
use lib.ListN.{length, get_or, drop}
use borrow.Author.Tests.{not-true, not-false}
use Rattle.meaning.specs.Tokens.{run}

-- RUNS
module _ (f : ℕ → Bool) where
  run_step : (s : List ℕ) (i : ℕ) → i < length s → f (get_or s i 0) ≡ true → run f (drop i s) ≡ suc (run f (drop (suc i) s))
  unfolding run
  run_step [] i h e = absurd (omega arith)
  run_step (c ∷ s) zero h e = rw e refl
  run_step (c ∷ s) (suc i) h e = run_step s i (omega arith) e

  pub run_more : (s : List ℕ) (i : ℕ) → i < length s → f (get_or s i 0) ≡ true → run f (drop i s) ≡ suc (run f (drop (i + 1) s))
  run_more s i h e = let n : suc i ≡ i + 1 = omega arith in run_step s i h e ∙ ap (λ (j : ℕ). suc (run f (drop j s))) n

  pub run_stops : (s : List ℕ) (i : ℕ) → i < length s → f (get_or s i 0) ≡ false → run f (drop i s) ≡ 0
  unfolding run
  run_stops [] i h e = absurd (omega arith)
  run_stops (c ∷ s) zero h e = rw e refl
  run_stops (c ∷ s) (suc i) h e = run_stops s i (omega arith) e

  pub run_ends : (s : List ℕ) (i : ℕ) → length s ≤ i → run f (drop i s) ≡ 0
  unfolding run
  run_ends [] zero h = refl
  run_ends [] (suc i) h = refl
  run_ends (c ∷ s) zero h = absurd (omega arith)
  run_ends (c ∷ s) (suc i) h = run_ends s i (omega arith)

-- WHERE A RUN ENDS: a loop from an offset on has come to byte i
pub record Running (f : ℕ → Bool) (s : List ℕ) (at i : ℕ) : Type 0 where
  pub inside : i ≤ length s
  pub is : at + run f (drop at s) ≡ i + run f (drop i s)

module _ {f : ℕ → Bool} {s : List ℕ} {at i : ℕ} (r : Running f s at i) where
  pub running_next : i < length s → {b : Bool} → b ≡ f (get_or s i 0) → not b ≡ false → Running f s at (i + 1)
  running_next h e n = record { inside = omega arith; is = r.is ∙ omega (arith, run_more f s i h (sym e ∙ not-false _ n)) }

  pub running_stops : i < length s → {b : Bool} → b ≡ f (get_or s i 0) → not b ≡ true → i ≡ at + run f (drop at s)
  running_stops h e n = omega (arith, r.is, run_stops f s i h (sym e ∙ not-true _ n))

  pub running_ends : length s ≤ i → i ≡ at + run f (drop at s)
  running_ends h = omega (arith, r.is, run_ends f s i h)
