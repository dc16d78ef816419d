-- What one word after another stores; what a cleared and a copied list is.
-- Assumes nothing.
use Prim.Native.Nat.{ℕ, ◌+◌, ◌-◌, ◌/◌, ◌%◌, ◌≤◌, ◌<◌, min}
use mathlib.Core.Path.{◌≡◌, refl, ap, ◌∙◌}
use mathlib.Core.List.{List, [], ◌∷◌, ◌++◌, append_assoc, append-nil}
use native.Mathlib.Omega.{arith}
use native.Mathlib.Nat.{min-le_right}
use native.Mathlib.Numerals.{add-one, add-two, add-three}
use lib.ListN.{length, take, drop, set, drop_of_length-le, length-drop}
use lib.Seq.{sets, sets-eq, length-take-le, drop-drop}
use Rattle.std.proofs.lemmas.List.{take_min}
use Rattle.meaning.specs.Base.{zeros, padded, bytes_of}
use Rattle.words.specs.Tables.{stored}

-- words stored one by one from a place on
sets_stored : (ws t : List ℕ) (at : ℕ) → at + length ws ≤ length t → sets t at ws ≡ stored t at ws
unfolding stored
sets_stored ws t at h = sets-eq ws t at h ∙ append_assoc (take at t) ws (drop (at + length ws) t)

pub stored_three : (t : List ℕ) (at x y z : ℕ) → at + 3 ≤ length t → set (set (set t at x) (at + 1) y) (at + 2) z ≡ stored t at (x ∷ y ∷ z ∷ [])
stored_three t at x y z h = rw (add-one, add-two) (sets_stored (x ∷ y ∷ z ∷ []) t at h)

pub stored_four : (t : List ℕ) (at x y z w : ℕ) → at + 4 ≤ length t → set (set (set (set t at x) (at + 1) y) (at + 2) z) (at + 3) w ≡ stored t at (x ∷ y ∷ z ∷ w ∷ [])
stored_four t at x y z w h = rw (add-one, add-two, add-three) (sets_stored (x ∷ y ∷ z ∷ w ∷ []) t at h)

-- a list of which a part at the front was lent and cleared
pub cleared_front : (d : List ℕ) (n : ℕ) {t : List ℕ} → n ≤ length d → t ≡ zeros (length (take n d)) → t ++ drop n d ≡ zeros n ++ drop n d
cleared_front d n l e = ap (λ (x : List ℕ). x ++ drop n d) (e ∙ ap zeros (length-take-le n d l))

-- and one at the back
pub cleared_back : (d : List ℕ) (n k : ℕ) {t : List ℕ} → n ≤ length d → k ≡ length d - n → t ≡ zeros (length (take k (drop n d))) → take n d ++ (t ++ drop k (drop n d)) ≡ padded (length d) (take n d)
cleared_back d n k {t} l q e =
    let m : length (take k (drop n d)) ≡ length d - length (take n d) = length-take-le k (drop n d) (omega (arith, length-drop n d)) ∙ omega (arith, length-take-le n d l) in
    let short : length (drop n d) ≤ k = omega (arith, length-drop n d) in
    ap (λ (x : List ℕ). take n d ++ (t ++ x)) (drop_of_length-le (drop n d) short)
    ∙ ap (λ (x : List ℕ). take n d ++ x) (append-nil t ∙ e ∙ ap zeros m)

-- and one from a place on, where the list has it
pub cleared_from : (d : List ℕ) (from : ℕ) {start : ℕ} {t : List ℕ} → start ≡ min from (length d) → t ≡ zeros (length (take (length d - start) (drop start d))) → take start d ++ (t ++ drop (length d - start) (drop start d)) ≡ padded (length d) (take from d)
cleared_from d from {start} {t} s e =
    cleared_back d start (length d - start) (omega (arith, s, min-le_right from (length d))) refl e
    ∙ ap (padded (length d)) (ap (λ (n : ℕ). take n d) s ∙ take_min from d)

-- a word's two bytes at their place
pub word_stored : (t : List ℕ) (at w : ℕ) {bs u : List ℕ} → w < 65536 → bs ≡ w % 256 ∷ w / 256 % 256 ∷ [] → u ≡ bs → take at t ++ (u ++ drop (at + 2 - at) (drop at t)) ≡ stored t at (bytes_of (w ∷ []))
unfolding stored bytes_of
word_stored t at w l b e =
    ap (λ (x : List ℕ). take at t ++ (x ++ drop (at + 2 - at) (drop at t))) (e ∙ b ∙ ap (λ (n : ℕ). w % 256 ∷ n ∷ []) (small l))
    ∙ ap (λ (x : List ℕ). take at t ++ (w % 256 ∷ w / 256 ∷ x)) (drop-drop (at + 2 - at) at t ∙ ap (λ (n : ℕ). drop n t) (omega arith))
  where
    small : w < 65536 → w / 256 % 256 ≡ w / 256
    small h = omega arith

-- cleared from its front on, it is all zeros
pub blanked_whole : (d : List ℕ) {t : List ℕ} → t ≡ padded (length d) (take 0 d) → t ≡ zeros (length d)
blanked_whole d e = e ∙ ap zeros {x = length d - 0} {y = length d} (omega arith)
