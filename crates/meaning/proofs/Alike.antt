-- Lists of words or bytes compared one by one.
-- Assumes nothing.
use mathlib.Core.Path.{◌≡◌, refl, sym, ap, ◌∙◌}
use mathlib.Core.Logic.{◌≢◌}
use mathlib.Core.Bool.{Bool, true, false, ◌&&◌}
use mathlib.Core.List.{List, [], ◌∷◌}
use Prim.Native.Nat.{ℕ, suc, ◌+◌, ◌≤◌, ◌<◌}
use native.Mathlib.Numerals.{add-one}
use native.Mathlib.Omega.{arith}
use lib.Dec.{eqb}
use lib.ListN.{length, get_or, drop, drop_of_length-le}
use lib.Seq.{drop-cons}
use borrow.Author.Tests.{eq-eqb, ne_eqb}
use Rattle.meaning.specs.Forests.{same_words}

and_false : (b : Bool) → (b && false) ≡ false
and_false true = refl
and_false false = refl

pub lengths_differ : (xs ys : List ℕ) → length xs ≢ length ys → false ≡ same_words xs ys
unfolding same_words
lengths_differ [] [] n = absurd (n refl)
lengths_differ [] (y ∷ ys) n = refl
lengths_differ (x ∷ xs) [] n = refl
lengths_differ (x ∷ xs) (y ∷ ys) n = sym (ap (λ (b : Bool). eqb x y && b) (sym (lengths_differ xs ys (λ p. n (ap suc p)))) ∙ and_false (eqb x y))

-- all words before place i are the same
pub record Alike (a b : List ℕ) (i : ℕ) : Type 0 where
  pub long : length a ≡ length b
  pub to : i ≤ length a
  pub rest : same_words (drop i a) (drop i b) ≡ same_words a b

pub alike_none : {a b : List ℕ} → length a ≡ length b → Alike a b 0
alike_none e = record { long = e; to = omega arith; rest = refl }

module _ (a b : List ℕ) {i : ℕ} (h : Alike a b i) where
  pub alike_all : length a ≤ i → true ≡ same_words a b
  unfolding same_words
  alike_all l = sym (ap (λ (x : List ℕ). same_words x (drop i b)) (drop_of_length-le a l) ∙ ap (λ (x : List ℕ). same_words [] x) (drop_of_length-le b {i = i} (omega (arith, h.long)))) ∙ h.rest

  module _ (l : i < length a) where
    next : same_words a b ≡ (eqb (get_or a i 0) (get_or b i 0) && same_words (drop (suc i) a) (drop (suc i) b))
    unfolding same_words
    next = sym h.rest ∙ ap (λ (x : List ℕ). same_words x (drop i b)) (drop-cons a i 0 l) ∙ ap (λ (x : List ℕ). same_words (get_or a i 0 ∷ drop (suc i) a) x) (drop-cons b i 0 (omega (arith, h.long)))

    pub alike_not : get_or a i 0 ≢ get_or b i 0 → false ≡ same_words a b
    alike_not n = sym (next ∙ ap (λ (x : Bool). x && same_words (drop (suc i) a) (drop (suc i) b)) (ne_eqb _ _ n))

    pub alike_more : get_or a i 0 ≡ get_or b i 0 → Alike a b (i + 1)
    alike_more e = record { long = h.long; to = omega arith; rest = ap (λ (k : ℕ). same_words (drop k a) (drop k b)) (add-one i) ∙ sym (next ∙ ap (λ (x : Bool). x && same_words (drop (suc i) a) (drop (suc i) b)) (eq-eqb _ _ e)) }
