-- Declared variables and definitions as words: what their words give back, and one more behind the others.
-- Assumes nothing.
use mathlib.Core.Path.{◌≡◌, refl, sym, ap, ◌∙◌}
use mathlib.Core.List.{List, [], ◌∷◌, ◌++◌, append_assoc}
use Prim.Native.Nat.{ℕ, zero, suc, ◌-◌, ◌≤◌, ◌<◌}
use native.Mathlib.Omega.{arith}
use lib.ListN.{length, get_or, take, drop, set, replicate, length-append}
use lib.Seq.{take-suc, take-length, set-append_seam, drop-drop}
use Rattle.meaning.specs.Base.{zeros, padded, concat_map}
use Rattle.meaning.specs.Records.{Var, tree, forest, var_of}
use Rattle.words.specs.Tables.{stored, var_in, vars_of}
use Rattle.words.proofs.Rows.{lent_at, lent_first}
use Rattle.reading.specs.Says.{kind_of_var, var_words}

pub var_wide : (x : ℕ × Var) → length (var_words x) ≡ 3
var_wide x = refl

var_made : (v : ℕ) (x : Var) → ◌≡◌ {A = ℕ × Var} (v, var_of (kind_of_var x) (get_or (var_words (v, x)) 2 0)) (v, x)
var_made v (tree e) = refl
var_made v (forest e) = refl

-- words copied to their place
pub pasted : (t : List ℕ) (at : ℕ) {k : ℕ} {u : List ℕ} (ws : List ℕ) → k ≡ length ws → u ≡ ws → take at t ++ (u ++ drop k (drop at t)) ≡ stored t at ws
unfolding stored
pasted t at {k} ws l e = rw (e, l) (ap (λ (x : List ℕ). take at t ++ (ws ++ x)) (drop-drop (length ws) at t))

-- A LENT TABLE that holds variables gives them back
module _ (n : ℕ) (vs : List (ℕ × Var)) where
  var_lent : (e : ℕ) → e < length vs → var_in (padded n (concat_map var_words vs)) e ≡ get_or vs e (0, tree 0)
  var_lent e l =
      let w = lent_at var_words 3 var_wide n vs (0, tree 0) e in
      rw (lent_first var_words 3 var_wide n vs (0, tree 0) e l (omega arith), w 1 l (omega arith), w 2 l (omega arith))
      (var_made (get_or vs e (0, tree 0)).0 (get_or vs e (0, tree 0)).1)

  vars_take : (k : ℕ) → k ≤ length vs → vars_of (padded n (concat_map var_words vs)) k ≡ take k vs
  unfolding vars_of
  vars_take zero h = refl
  vars_take (suc k) h = rw (take-suc vs k (0, tree 0) h, vars_take k (omega arith), var_lent k h)

  pub vars_lent : vars_of (padded n (concat_map var_words vs)) (length vs) ≡ vs
  vars_lent = vars_take (length vs) (omega arith) ∙ take-length vs

-- ONE DEFINITION MORE
zeros_more : (m : ℕ) → 0 < m → zeros m ≡ 0 ∷ zeros (m - 1)
unfolding zeros
zeros_more zero h = absurd (omega arith)
zeros_more (suc m) h = ap (λ (k : ℕ). 0 ∷ replicate k 0) {x = m} {y = suc m - 1} (omega arith)

pub def_more : (n : ℕ) (D : List ℕ) (x : ℕ) → length D < n → set (padded n D) (length D) x ≡ padded n (D ++ (x ∷ []))
def_more n D x h =
    rw (zeros_more (n - length D) (omega arith))
    (set-append_seam D 0 (zeros (n - length D - 1)) x
    ∙ sym (append_assoc D (x ∷ []) (zeros (n - length D - 1)))
    ∙ ap (λ (k : ℕ). (D ++ (x ∷ [])) ++ zeros k) {x = n - length D - 1} {y = n - length (D ++ (x ∷ []))} (omega (arith, length-append D (x ∷ []))))
