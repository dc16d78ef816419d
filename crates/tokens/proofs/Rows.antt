-- The code's table of words is the definition's.
-- Assumes nothing.
use mathlib.Core.Path.{◌≡◌, refl, sym, ap, ◌∙◌}
use mathlib.Core.Logic.{◌≢◌}
use mathlib.Core.Bool.{Bool, true, false, ◌&&◌}
use mathlib.Core.List.{List, [], ◌∷◌}
use Prim.Native.Nat.{ℕ, zero, suc, ◌+◌, ◌≤◌, ◌<◌}
use native.Mathlib.Omega.{arith}
use denote.Bor.{Bor}
use lib.Dec.{eqb}
use lib.ListN.{length, get_or, drop, drop_of_length-le}
use borrow.Author.Tests.{eqb-true}
use Rattle.std.specs.Bool.{Decides}
use Rattle.std.specs.Cmp.Lexicographic.{pointwise}
use Rattle.std.proofs.lemmas.Bool.Decides.{Decides-eqb}
use Rattle.std.proofs.lemmas.Slice.Eq.{slice_eq-Decides, compares_Decides}
use native.Mathlib.Numerals.{add-one}
use Rattle.meaning.specs.Forests.{same_words}
use Rattle.meaning.specs.Tokens
use Rattle.meaning.specs.Tokens.{words, word_among}
use Rattle.meaning.proofs.Lists.{never, both_true}
use Rattle.tokens.specs.declared.Token.{Token}
use Rattle.tokens.specs.Says.{kind_of, value_of, Shows}

-- a test of the letters decides that they are the same
pub same_decides : (xs ys : List ℕ) → Decides (same_words xs ys) (xs ≡ ys)
unfolding same_words
same_decides = compares_Decides same_words (record { empty = refl; shorter = λ y ys. refl; longer = λ x xs. refl; heads = λ x y xs ys. refl })

-- the rows are those of a table
abbrev pub agrees : List (Bor (List ℕ) × Token) → List (ℕ × List ℕ) → Bool
agrees [] [] = true
agrees [] (w ∷ ws) = false
agrees (r ∷ rs) [] = false
agrees (r ∷ rs) (w ∷ ws) = (same_words r.0.now w.1 && (eqb (kind_of r.1) w.0 && eqb (value_of r.1) 0)) && agrees rs ws

-- THE WORD at a place is the letters, or is not
hits : (w : ℕ × List ℕ) (ws : List (ℕ × List ℕ)) (s : List ℕ) → w.1 ≡ s → word_among (w ∷ ws) s ≡ Tokens.token w.0 0 (length s)
unfolding word_among
hits w ws s e = ap (λ (c : Bool). elim c [ true ↦ Tokens.token w.0 0 (length s) | false ↦ word_among ws s ]) ((same_decides w.1 s).1 e)

misses : (w : ℕ × List ℕ) (ws : List (ℕ × List ℕ)) (s : List ℕ) → w.1 ≢ s → (b : Bool) → same_words w.1 s ≡ b → word_among (w ∷ ws) s ≡ word_among ws s
unfolding word_among
misses w ws s n true e = absurd (n ((same_decides w.1 s).0 e))
misses w ws s n false e = ap (λ (c : Bool). elim c [ true ↦ Tokens.token w.0 0 (length s) | false ↦ word_among ws s ]) e

row_hit : (rs : List (Bor (List ℕ) × Token)) (ws : List (ℕ × List ℕ)) (i : ℕ) (s : List ℕ) (d : Bor (List ℕ) × Token) → agrees rs ws ≡ true → i < length rs → s ≡ (get_or rs i d).0.now → Shows (word_among (drop i ws) s) (get_or rs i d).1
row_hit [] ws i s d a l e = absurd (omega arith)
row_hit (r ∷ rs) [] i s d a l e = never a
row_hit (r ∷ rs) (w ∷ ws) zero s d a l e =
    let row = (both_true (same_words r.0.now w.1 && (eqb (kind_of r.1) w.0 && eqb (value_of r.1) 0)) (agrees rs ws) a).0 in
    let both = both_true (same_words r.0.now w.1) (eqb (kind_of r.1) w.0 && eqb (value_of r.1) 0) row in
    let numbers = both_true (eqb (kind_of r.1) w.0) (eqb (value_of r.1) 0) both.1 in
    rw (hits w ws s (sym ((same_decides r.0.now w.1).0 both.0) ∙ sym e)) (record { kind = eqb-true _ _ numbers.0; value = eqb-true _ _ numbers.1 })
row_hit (r ∷ rs) (w ∷ ws) (suc i) s d a l e = row_hit rs ws i s d (both_true (same_words r.0.now w.1 && (eqb (kind_of r.1) w.0 && eqb (value_of r.1) 0)) (agrees rs ws) a).1 (omega arith) e

row_miss : (rs : List (Bor (List ℕ) × Token)) (ws : List (ℕ × List ℕ)) (i : ℕ) (s : List ℕ) (d : Bor (List ℕ) × Token) → agrees rs ws ≡ true → i < length rs → s ≢ (get_or rs i d).0.now → word_among (drop i ws) s ≡ word_among (drop (suc i) ws) s
row_miss [] ws i s d a l e = absurd (omega arith)
row_miss (r ∷ rs) [] i s d a l e = never a
row_miss (r ∷ rs) (w ∷ ws) zero s d a l n =
    let row = (both_true (same_words r.0.now w.1 && (eqb (kind_of r.1) w.0 && eqb (value_of r.1) 0)) (agrees rs ws) a).0 in
    let both = both_true (same_words r.0.now w.1) (eqb (kind_of r.1) w.0 && eqb (value_of r.1) 0) row in
    misses w ws s (λ e. n (sym ((same_decides r.0.now w.1).0 both.0 ∙ e))) (same_words w.1 s) refl
row_miss (r ∷ rs) (w ∷ ws) (suc i) s d a l n = row_miss rs ws i s d (both_true (same_words r.0.now w.1 && (eqb (kind_of r.1) w.0 && eqb (value_of r.1) 0)) (agrees rs ws) a).1 (omega arith) n

-- THE LOOP over the rows: none before row i is the letters
pub record Missed (rs : List (Bor (List ℕ) × Token)) (s : List ℕ) (i : ℕ) : Type 0 where
  pub rows : agrees rs words ≡ true
  pub is : word_among words s ≡ word_among (drop i words) s

module _ {rs : List (Bor (List ℕ) × Token)} {s : List ℕ} {i : ℕ} (m : Missed rs s i) (d : Bor (List ℕ) × Token) (r : Bool) (e : r ≡ pointwise eqb s (get_or rs i d).0.now) where
  same : Decides r (s ≡ (get_or rs i d).0.now)
  same = slice_eq-Decides Decides-eqb s (get_or rs i d).0.now r e

  pub word_hit : i < length rs → r ≡ true → Shows (word_among words s) (get_or rs i d).1
  word_hit l t = rw m.is (row_hit rs words i s d m.rows l (same.0 t))

  pub word_miss : i < length rs → r ≡ false → Missed rs s (i + 1)
  word_miss l f = record { rows = m.rows; is = m.is ∙ row_miss rs words i s d m.rows l (λ q. never (sym f ∙ same.1 q)) ∙ ap (λ (j : ℕ). word_among (drop j words) s) (sym (add-one i)) }

pub word_none : {rs : List (Bor (List ℕ) × Token)} {s : List ℕ} {i : ℕ} → Missed rs s i → 12 ≤ i → Shows (word_among words s) Token.Strange
unfolding words word_among
word_none {i = i} m l = rw (m.is, drop_of_length-le words {i = i} l) (record { kind = refl; value = refl })
