-- A lent table of rows, each of the same width: what stands at a row's place, and one row more. Shown once over the width; type entries, query nodes
-- and forest entries are instances.
-- Assumes nothing.
use mathlib.Core.Path.{◌≡◌, refl, sym, ap, ◌∙◌}
use mathlib.Core.List.{List, [], ◌∷◌, ◌++◌, append_assoc, append-nil}
use Prim.Native.Nat.{ℕ, zero, suc, ◌+◌, ◌*◌, ◌-◌, ◌≤◌, ◌<◌}
use native.Mathlib.Omega.{arith}
use native.Mathlib.Nat.{mul-suc, mul-le-mul_left}
use lib.ListN.{length, get_or, take, drop, replicate, length-append, length-drop, length-replicate, replicate-append-replicate, get_or-append}
use lib.Seq.{get_or-append-add, get_or-take, length-take-le, take_all, take-append-le, take_at, drop_at, drop-append-add}
use Rattle.meaning.specs.Base.{concat_map, zeros, padded}
use Rattle.words.specs.Tables.{stored}

pub zeros_length : (n : ℕ) → length (zeros n) ≡ n
unfolding zeros
zeros_length n = length-replicate n 0

drop_zeros : (k n : ℕ) → drop k (zeros n) ≡ zeros (n - k)
unfolding zeros
drop_zeros zero n = ap (λ (m : ℕ). replicate m 0) {x = n} {y = n - 0} (omega arith)
drop_zeros (suc k) zero = ap (λ (m : ℕ). replicate m 0) {x = 0} {y = 0 - suc k} (omega arith)
drop_zeros (suc k) (suc n) = drop_zeros k n ∙ ap (λ (m : ℕ). replicate m 0) {x = n - k} {y = suc n - suc k} (omega arith)

-- what is stored where there is room for it leaves the length
pub stored_length : (t ws : List ℕ) (at : ℕ) → at + length ws ≤ length t → length (stored t at ws) ≡ length t
unfolding stored
stored_length t ws at h =
    length-append (take at t) (ws ++ drop (at + length ws) t)
    ∙ omega (arith, length-take-le at t (omega arith), length-append ws (drop (at + length ws) t), length-drop (at + length ws) t)

-- A WORD of what was stored, and one before it
pub stored_in : (t ws : List ℕ) (at i : ℕ) → at ≤ length t → i < length ws → get_or (stored t at ws) (at + i) 0 ≡ get_or ws i 0
unfolding stored
stored_in t ws at i h l =
    ap (λ (n : ℕ). get_or (take at t ++ (ws ++ drop (at + length ws) t)) (n + i) 0) (sym (length-take-le at t h))
    ∙ get_or-append-add (take at t) (ws ++ drop (at + length ws) t) i 0
    ∙ sym (get_or-take (length ws) (ws ++ drop (at + length ws) t) i 0 l)
    ∙ ap (λ (l : List ℕ). get_or l i 0) (take-append-le (length ws) ws (drop (at + length ws) t) (omega arith))
    ∙ get_or-take (length ws) ws i 0 l

pub stored_before : (t ws : List ℕ) (at j : ℕ) → at ≤ length t → j < at → get_or (stored t at ws) j 0 ≡ get_or t j 0
unfolding stored
stored_before t ws at j h l =
    sym (get_or-take at (take at t ++ (ws ++ drop (at + length ws) t)) j 0 l)
    ∙ ap (λ (l : List ℕ). get_or l j 0) (take-append-le at (take at t) (ws ++ drop (at + length ws) t) (omega (arith, length-take-le at t h)))
    ∙ ap (λ (l : List ℕ). get_or l j 0) (take_self at t h)
    ∙ get_or-take at t j 0 l
  where
    take_self : (n : ℕ) (l : List ℕ) → n ≤ length l → take n (take n l) ≡ take n l
    take_self n l h = take_all n (take n l) (omega (arith, length-take-le n l h))

-- what is stored behind the words that a lent list holds stands behind them
pub stored_behind : (n : ℕ) (ws vs : List ℕ) → length ws + length vs ≤ n → stored (padded n ws) (length ws) vs ≡ padded n (ws ++ vs)
unfolding stored
stored_behind n ws vs h =
    rw (take_at ws (zeros (n - length ws)) (length ws) refl, drop-append-add ws (zeros (n - length ws)) (length vs), drop_zeros (length vs) (n - length ws))
    (sym (append_assoc ws vs _) ∙ ap (λ (k : ℕ). (ws ++ vs) ++ zeros k) {x = n - length ws - length vs} {y = n - length (ws ++ vs)} (omega (arith, length-append ws vs)))

-- a padded list is no shorter than what it holds
pub padded_most : (n : ℕ) (ws : List ℕ) → length ws ≤ length (padded n ws)
padded_most n ws = omega (arith, length-append ws (zeros (n - length ws)))

-- zeros over the words that a lent list holds: all of it is zero
pub front_cleared : (n : ℕ) {k : ℕ} {t : List ℕ} (ws : List ℕ) → length ws ≡ k → k ≤ n → t ≡ padded n ws → zeros k ++ drop k t ≡ zeros n
unfolding zeros
front_cleared n {k} ws l h e =
    rw (e, drop_at ws (zeros (n - length ws)) k l, replicate-append-replicate {A = ℕ} k (n - length ws) 0)
    (ap zeros {x = k + (n - length ws)} {y = n} (omega (arith, l, h)))

module _ {A : Type 0} (f : A → List ℕ) (w : ℕ) (wide : (x : A) → length (f x) ≡ w) where
  pub rows_length : (T : List A) → length (concat_map f T) ≡ w * length T
  unfolding concat_map
  rows_length [] = omega arith
  rows_length (x ∷ T) = omega (arith, length-append (f x) (concat_map f T), wide x, rows_length T, mul-suc w (length T))

  pub rows_more : (T : List A) (x : A) → concat_map f (T ++ (x ∷ [])) ≡ concat_map f T ++ f x
  unfolding concat_map
  rows_more [] x = append-nil (f x)
  rows_more (y ∷ T) x = ap (f y ++◌) (rows_more T x) ∙ sym (append_assoc (f y) (concat_map f T) (f x))

  -- the words of row e
  pub row_at : (T : List A) (z : A) (e i : ℕ) → e < length T → i < w → get_or (concat_map f T) (w * e + i) 0 ≡ get_or (f (get_or T e z)) i 0
  unfolding concat_map
  row_at [] z e i l h = absurd (omega arith)
  row_at (x ∷ T) z zero i l h = let k : w * 0 + i ≡ i = omega arith in rw k (get_or-append (f x) (concat_map f T) 0 i (omega (arith, wide x)))
  row_at (x ∷ T) z (suc e) i l h =
      let k : w * suc e + i ≡ length (f x) + (w * e + i) = omega (arith, wide x, mul-suc w e) in
      rw k (get_or-append-add (f x) (concat_map f T) (w * e + i) 0 ∙ row_at T z e i (omega arith) h)

  pub lent_at : (n : ℕ) (T : List A) (z : A) (e i : ℕ) → e < length T → i < w → get_or (padded n (concat_map f T)) (w * e + i) 0 ≡ get_or (f (get_or T e z)) i 0
  lent_at n T z e i l h = get_or-append (concat_map f T) (zeros (n - length (concat_map f T))) 0 (w * e + i) (within e l) ∙ row_at T z e i l h
    where
      within : (e : ℕ) → e < length T → w * e + i < length (concat_map f T)
      within e l = omega (arith, rows_length T, mul-suc w e, mul-le-mul_left {m = suc e} {n = length T} w l)

  pub lent_first : (n : ℕ) (T : List A) (z : A) (e : ℕ) → e < length T → 0 < w → get_or (padded n (concat_map f T)) (w * e) 0 ≡ get_or (f (get_or T e z)) 0 0
  lent_first n T z e l h = ap (λ (k : ℕ). get_or (padded n (concat_map f T)) k 0) {x = w * e} {y = w * e + 0} (omega arith) ∙ lent_at n T z e 0 l h

  -- one row more, stored behind the others
  pub row_more : (n : ℕ) (T : List A) (x : A) → w * length T + w ≤ n → stored (padded n (concat_map f T)) (w * length T) (f x) ≡ padded n (concat_map f (T ++ (x ∷ [])))
  row_more n T x h =
      let long = rows_length T in
      rw (← long, rows_more T x) (stored_behind n (concat_map f T) (f x) (omega (arith, wide x)))
