-- Marks in a lent table of words: where there is one, and how many have none.
-- Assumes nothing.
use mathlib.Core.Path.{◌≡◌, refl, sym, ap, ◌∙◌}
use mathlib.Core.Bool.{Bool, true, false, not, cond}
use mathlib.Core.List.{List, [], ◌∷◌}
use Prim.Native.Nat.{ℕ, zero, suc, ◌+◌, ◌≤◌, ◌<◌}
use native.Mathlib.Omega.{arith}
use native.Mathlib.Decide.{ℕ_discrete}
use borrow.Author.Tests.{eq-eqb, ne_eqb}
use lib.Dec.{eqb}
use lib.ListN.{length, get_or, set}
use lib.Seq.{get_or-set_same, get_or-set_other}
use Rattle.reach.specs.Marks.{marks_of, blank}

marks_at : (n : ℕ) (ms : List ℕ) (e : ℕ) → e < n → get_or (marks_of n ms) e false ≡ not (eqb (get_or ms e 0) 0)
unfolding marks_of
marks_at zero ms e h = absurd (omega arith)
marks_at (suc n) [] zero h = refl
marks_at (suc n) [] (suc e) h = marks_at n [] e (omega arith)
marks_at (suc n) (w ∷ ws) zero h = refl
marks_at (suc n) (w ∷ ws) (suc e) h = marks_at n ws e (omega arith)

pub unmarked_at : (n : ℕ) (ms : List ℕ) (e : ℕ) → e < n → get_or ms e 0 ≡ 0 → get_or (marks_of n ms) e false ≡ false
unmarked_at n ms e h p = marks_at n ms e h ∙ ap not (eq-eqb (get_or ms e 0) 0 p)

pub marked_at : (n : ℕ) (ms : List ℕ) (e : ℕ) → e < n → (get_or ms e 0 ≡ 0 → ⊥) → get_or (marks_of n ms) e false ≡ true
marked_at n ms e h p = marks_at n ms e h ∙ ap not (ne_eqb (get_or ms e 0) 0 p)

pub marks_length : (n : ℕ) (ms : List ℕ) → length (marks_of n ms) ≡ n
unfolding marks_of
marks_length zero ms = refl
marks_length (suc n) [] = ap suc (marks_length n [])
marks_length (suc n) (w ∷ ws) = ap suc (marks_length n ws)

-- HOW MANY HAVE NO MARK: a word behind them changes nothing, and a new mark is one less
pub blank_above : (n : ℕ) (ms : List ℕ) (i w : ℕ) → n ≤ i → blank n (set ms i w) ≡ blank n ms
unfolding blank
blank_above zero ms i w h = refl
blank_above (suc n) ms i w h = rw (get_or-set_other ms i n w 0 (λ p. omega arith)) (ap (λ (k : ℕ). cond (eqb (get_or ms n 0) 0) 1 0 + k) (blank_above n ms i w (omega arith)))

pub blank_less : (n : ℕ) (ms : List ℕ) (i : ℕ) → i < n → i < length ms → get_or ms i 0 ≡ 0 → blank n (set ms i 1) + 1 ≡ blank n ms
unfolding blank
blank_less zero ms i h l p = absurd (omega arith)
blank_less (suc n) ms i h l p = go (ℕ_discrete i n) (λ k. blank_less n ms i k l p)
  where
    go : Dec (i ≡ n) → (i < n → blank n (set ms i 1) + 1 ≡ blank n ms) → cond (eqb (get_or (set ms i 1) n 0) 0) 1 0 + blank n (set ms i 1) + 1 ≡ cond (eqb (get_or ms n 0) 0) 1 0 + blank n ms
    go (yes e) r =
        let a : get_or (set ms i 1) n 0 ≡ 1 = ap (λ (k : ℕ). get_or (set ms i 1) k 0) (sym e) ∙ get_or-set_same ms i 1 0 l in
        let b : get_or ms n 0 ≡ 0 = ap (λ (k : ℕ). get_or ms k 0) (sym e) ∙ p in
        rw (a, b) (omega (arith, blank_above n ms i 1 (omega arith)))
    go (no d) r = rw (get_or-set_other ms i n 1 0 (λ q. d (sym q))) (omega (arith, r (omega arith)))

pub blank_none : (n : ℕ) (ms : List ℕ) → blank n ms ≤ n
unfolding blank
blank_none zero ms = omega arith
blank_none (suc n) ms = go (eqb (get_or ms n 0) 0) (blank_none n ms)
  where
    go : (b : Bool) → blank n ms ≤ n → cond b 1 0 + blank n ms ≤ suc n
    go true h = omega arith
    go false h = omega arith

-- one that has no mark is counted
pub blank_some : (n : ℕ) (ms : List ℕ) (i : ℕ) → i < n → get_or ms i 0 ≡ 0 → 1 ≤ blank n ms
unfolding blank
blank_some zero ms i h p = absurd (omega arith)
blank_some (suc n) ms i h p = go (ℕ_discrete i n) (λ k. blank_some n ms i k p)
  where
    go : Dec (i ≡ n) → (i < n → 1 ≤ blank n ms) → 1 ≤ cond (eqb (get_or ms n 0) 0) 1 0 + blank n ms
    go (yes e) r = let b : get_or ms n 0 ≡ 0 = ap (λ (k : ℕ). get_or ms k 0) (sym e) ∙ p in rw b (omega arith)
    go (no d) r = omega (arith, r (omega arith))
