-- An element's entry, words held behind others, and bodies moved down.
-- Assumes nothing.
use mathlib.Core.Path.{◌≡◌, sym, ap, ◌∙◌}
use mathlib.Core.List.{List, [], ◌∷◌, ◌++◌, append-nil}
use Prim.Native.Nat.{ℕ, ◌+◌, ◌*◌, ◌-◌, ◌≤◌}
use native.Mathlib.Omega.{arith}
use native.Mathlib.Nat.{zero-add}
use lib.ListN.{length, take, drop, length-drop}
use lib.Seq.{paste, take-paste, drop-paste, drop-drop}
use Rattle.meaning.specs.Base.{zeros}
use Rattle.meaning.specs.Forests.{Forest, end, tree, size, forest_words}
use Rattle.words.specs.Tables.{stored}
use Rattle.copies.specs.Fills.{Filled}
use Rattle.copies.proofs.Lent.{zeros_append, lent, back}
use Rattle.copies.proofs.Filling.{filled_front, filled_blank}
use Rattle.moves.specs.Moves.{Wraps, Moves}

-- AN ELEMENT'S ENTRY
wrapped : (ws us : List ℕ) (l k : ℕ) (f : Forest) → 3 * (1 + k) ≤ length ws → us ≡ stored ws (3 * 0) (65 ∷ l ∷ k ∷ []) → Filled (length ws - 3) (drop 3 ws) k f → Filled (length ws) us (1 + k) (tree l f end)
unfolding stored size forest_words
wrapped ws us l k f fits e h =
    let z : length ws - 3 - 3 * k ≡ length ws - 3 * (1 + k) = omega arith in
    record {
      count = omega (arith, h.count);
      fits = fits;
      laid =
          e
          ∙ ap (λ (x : List ℕ). 65 ∷ l ∷ k ∷ x) h.laid
          ∙ ap (λ (n : ℕ). 65 ∷ l ∷ n ∷ (forest_words f ++ zeros (length ws - 3 - 3 * k))) (sym h.count)
          ∙ ap (λ (n : ℕ). 65 ∷ l ∷ size f ∷ (forest_words f ++ zeros n)) z
          ∙ ap (λ (x : List ℕ). 65 ∷ l ∷ size f ∷ (x ++ zeros (length ws - 3 * (1 + k)))) (sym (append-nil (forest_words f)));
    }

pub wraps : (ws us : List ℕ) (l k : ℕ) → 3 * (1 + k) ≤ length ws → us ≡ stored ws (3 * 0) (65 ∷ l ∷ k ∷ []) → Wraps ws us l k
wraps ws us l k fits s = record { is = λ f h. wrapped ws us l k f fits s h }

-- WORDS HELD: stored at the front of a part that is lent
pub stored_behind : (t : List ℕ) (at : ℕ) (ws ys : List ℕ) → ys ≡ stored (take (length t - at) (drop at t)) 0 ws → take at t ++ (ys ++ drop (length t - at) (drop at t)) ≡ stored t at ws
unfolding stored
stored_behind t at ws ys e =
    back at t ys
    ∙ ap (λ (l : List ℕ). take at t ++ l) (e ∙ ap (λ (l : List ℕ). ws ++ drop (0 + length ws) l) (lent at t))
    ∙ ap (λ (k : ℕ). take at t ++ (ws ++ drop k (drop at t))) (zero-add (length ws))
    ∙ ap (λ (l : List ℕ). take at t ++ (ws ++ l)) (drop-drop (length ws) at t)

-- BODIES MOVED DOWN: the words that were moved, and then zeros up to where they ended
module _ (ws xs us : List ℕ) (k m : ℕ) (g : Forest) (fits : 3 * (k + m) ≤ length ws) (shifted : xs ≡ paste ws 0 (drop (3 * k) ws) (3 * m)) (h : Filled (length ws - 3 * k) (drop (3 * k) ws) m g) where
  long : 3 * m ≤ length (drop (3 * k) ws)
  long = omega (arith, length-drop (3 * k) ws)

  front_is : take (3 * m) xs ≡ forest_words g
  front_is = ap (λ (x : List ℕ). take (3 * m) x) shifted ∙ ap (λ (n : ℕ). take n (paste ws 0 (drop (3 * k) ws) (3 * m))) (sym (zero-add (3 * m))) ∙ take-paste ws 0 (drop (3 * k) ws) (3 * m) (omega arith) long ∙ filled_front h

  behind_is : drop (3 * m) xs ≡ drop (3 * m) ws
  behind_is = ap (λ (x : List ℕ). drop (3 * m) x) shifted ∙ ap (λ (n : ℕ). drop n (paste ws 0 (drop (3 * k) ws) (3 * m))) (sym (zero-add (3 * m))) ∙ drop-paste ws 0 (drop (3 * k) ws) (3 * m) (omega arith) long ∙ ap (λ (n : ℕ). drop n ws) (zero-add (3 * m))

  last_is : drop (3 * (k + m) - 3 * m) (drop (3 * m) xs) ≡ zeros (length ws - 3 * k - 3 * m)
  last_is =
      let z : 3 * m + (3 * (k + m) - 3 * m) ≡ 3 * k + 3 * m = omega arith in
      ap (λ (x : List ℕ). drop (3 * (k + m) - 3 * m) x) behind_is ∙ drop-drop (3 * (k + m) - 3 * m) (3 * m) ws ∙ ap (λ (n : ℕ). drop n ws) z ∙ sym (drop-drop (3 * m) (3 * k) ws) ∙ filled_blank h

  moved_down : {ys : List ℕ} (n : ℕ) → ys ≡ zeros n → n ≡ 3 * k → us ≡ take (3 * m) xs ++ (ys ++ drop (3 * (k + m) - 3 * m) (drop (3 * m) xs)) → Filled (length ws) us m g
  moved_down {ys} n y p e =
      let z : 3 * k + (length ws - 3 * k - 3 * m) ≡ length ws - 3 * m = omega arith in
      record {
        count = h.count;
        fits = omega arith;
        laid =
            e
            ∙ ap (λ (x : List ℕ). x ++ (ys ++ drop (3 * (k + m) - 3 * m) (drop (3 * m) xs))) front_is
            ∙ ap (λ (x : List ℕ). forest_words g ++ (ys ++ x)) last_is
            ∙ ap (λ (x : List ℕ). forest_words g ++ (x ++ zeros (length ws - 3 * k - 3 * m))) (y ∙ ap zeros p)
            ∙ ap (λ (x : List ℕ). forest_words g ++ x) (zeros_append (3 * k) (length ws - 3 * k - 3 * m) ∙ ap zeros z);
      }

pub moves : (ws us : List ℕ) (k m : ℕ) {xs ys : List ℕ} (n : ℕ) → 3 * (k + m) ≤ length ws → xs ≡ paste ws 0 (drop (3 * k) ws) (3 * k + 3 * m - 3 * k) → ys ≡ zeros n → n ≡ 3 * k → us ≡ take (3 * m) xs ++ (ys ++ drop (3 * (k + m) - 3 * m) (drop (3 * m) xs)) → Moves ws us k m
moves ws us k m {xs} n fits x y p s =
    let count : 3 * k + 3 * m - 3 * k ≡ 3 * m = omega arith in
    record { is = λ g h. moved_down ws xs us k m g fits (x ∙ ap (λ (j : ℕ). paste ws 0 (drop (3 * k) ws) j) count) h n y p s }
