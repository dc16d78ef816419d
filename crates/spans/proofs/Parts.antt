-- Stretches of a table: their length, their words, what stands at the front of one and behind that, and that a stretch among entries that are kept is
-- kept.
-- Assumes nothing.
use mathlib.Core.Path.{◌≡◌, refl, sym, ap, ◌∙◌}
use mathlib.Core.List.{List, [], ◌∷◌, ◌++◌}
use Prim.Native.Nat.{ℕ, zero, suc, ◌+◌, ◌*◌, ◌-◌, ◌≤◌, ◌<◌}
use native.Mathlib.Nat.{zero-add, suc-add}
use native.Mathlib.Omega.{arith}
use lib.ListN.{length, get_or, take, drop, length-take, length-drop}
use lib.Seq.{take-take, take-nil, drop-drop, take_at, drop_at, get_or-take, get_or-drop}
use Rattle.spans.specs.Shows.{part}

take_drop : (n m : ℕ) (xs : List ℕ) → take n (drop m xs) ≡ drop m (take (m + n) xs)
take_drop n zero xs = ap (λ (k : ℕ). take k xs) (sym (zero-add n))
take_drop n (suc m) [] = take-nil n ∙ sym (ap (λ (l : List ℕ). drop (suc m) l) (take-nil (suc m + n)))
take_drop n (suc m) (x ∷ xs) = take_drop n m xs ∙ ap (λ (k : ℕ). drop (suc m) (take k (x ∷ xs))) (sym (suc-add m n))

pub part_length : (held : List ℕ) (a e : ℕ) → 3 * e ≤ length held → length (part held a e) ≡ 3 * e - 3 * a
unfolding part
part_length held a e h = simp (length-take, length-drop) (omega arith)

pub part_at : (held : List ℕ) (a e i : ℕ) → i < 3 * e - 3 * a → get_or (part held a e) i 0 ≡ get_or held (3 * a + i) 0
unfolding part
part_at held a e i h = get_or-take (3 * e - 3 * a) (drop (3 * a) held) i 0 h ∙ get_or-drop (3 * a) held i 0

-- no entries
pub part_none : (held : List ℕ) (a : ℕ) → part held a a ≡ []
unfolding part
part_none held a = let z : 3 * a - 3 * a ≡ 0 = omega arith in rw z refl

-- WHAT STANDS AT THE FRONT of a stretch, in s entries, and what behind that
module _ (held : List ℕ) (a s e : ℕ) (xs ys : List ℕ) (is : part held a e ≡ xs ++ ys) (long : length xs ≡ 3 * s) (inside : a + s ≤ e) where
  pub part_front : part held a (a + s) ≡ xs
  unfolding part
  part_front =
      let less : 3 * (a + s) - 3 * a ≡ 3 * s = omega arith in
      ap (λ (k : ℕ). take k (drop (3 * a) held)) less
      ∙ sym (take-take (3 * s) (3 * e - 3 * a) (drop (3 * a) held) (omega arith))
      ∙ ap (λ (l : List ℕ). take (3 * s) l) is
      ∙ take_at xs ys (3 * s) long

  pub part_behind : part held (a + s) e ≡ ys
  unfolding part
  part_behind =
      let sum : 3 * (a + s) ≡ 3 * a + 3 * s = omega arith in
      let more : 3 * s + (3 * e - 3 * (a + s)) ≡ 3 * e - 3 * a = omega arith in
      ap (λ (k : ℕ). take (3 * e - 3 * (a + s)) (drop k held)) sum
      ∙ ap (λ (l : List ℕ). take (3 * e - 3 * (a + s)) l) (sym (drop-drop (3 * s) (3 * a) held))
      ∙ take_drop (3 * e - 3 * (a + s)) (3 * s) (drop (3 * a) held)
      ∙ ap (λ (k : ℕ). drop (3 * s) (take k (drop (3 * a) held))) more
      ∙ ap (λ (l : List ℕ). drop (3 * s) l) is
      ∙ drop_at xs ys (3 * s) long

-- entries among the first n, which are kept
pub part_below : (held after : List ℕ) (a e n : ℕ) → a ≤ e → e ≤ n → take (3 * n) after ≡ take (3 * n) held → part after a e ≡ part held a e
unfolding part
part_below held after a e n o h k = below after ∙ ap (λ (l : List ℕ). take (3 * e - 3 * a) (drop (3 * a) l)) k ∙ sym (below held)
  where
    fewer : 3 * a + (3 * e - 3 * a) ≤ 3 * n → (l : List ℕ) → take (3 * e - 3 * a) (drop (3 * a) l) ≡ take (3 * e - 3 * a) (drop (3 * a) (take (3 * n) l))
    fewer j l =
        take_drop (3 * e - 3 * a) (3 * a) l
        ∙ ap (λ (x : List ℕ). drop (3 * a) x) (sym (take-take (3 * a + (3 * e - 3 * a)) (3 * n) l j))
        ∙ sym (take_drop (3 * e - 3 * a) (3 * a) (take (3 * n) l))

    below : (l : List ℕ) → take (3 * e - 3 * a) (drop (3 * a) l) ≡ take (3 * e - 3 * a) (drop (3 * a) (take (3 * n) l))
    below l = fewer (omega arith) l
