-- Loops over a list whose members have bytes: how many there are, and putting them into a buffer one behind the other. What was done with what is
-- still to come is the whole.
-- Assumes nothing.
use mathlib.Core.Path.{◌≡◌, refl, ap, sym, ◌∙◌, subst}
use mathlib.Core.List.{List, [], ◌++◌, append_assoc, append-nil}
use Prim.Native.Nat.{ℕ, ◌+◌, ◌≤◌, ◌<◌}
use native.Mathlib.Omega.{arith}
use native.Mathlib.Numerals.{add-one}
use lib.ListN.{length, get_or, drop, length-append, drop_of_length-le}
use lib.Seq.{drop-cons}
use Rattle.meaning.specs.Base.{concat_map}
use Rattle.answers.specs.Parts.{Extends}
use Rattle.answers.proofs.Extending.{extends_none, extends_then}

module _ {A : Type 0} (f : A → List ℕ) (l : List A) where
  -- what is still to come from member i on
  abbrev pub coming : ℕ → List ℕ
  coming i = concat_map f (drop i l)

  coming_next : (z : A) (i : ℕ) → i < length l → coming i ≡ f (get_or l i z) ++ coming (i + 1)
  unfolding concat_map
  coming_next z i h = rw (add-one, drop-cons l i z h)

  coming_none : (i : ℕ) → length l ≤ i → coming i ≡ []
  unfolding concat_map
  coming_none i h = rw (drop_of_length-le l h)

  pub coming_length : (z : A) (i : ℕ) → i < length l → length (coming i) ≡ length (f (get_or l i z)) + length (coming (i + 1))
  coming_length z i h = ap length (coming_next z i h) ∙ length-append (f (get_or l i z)) (coming (i + 1))

  pub coming_end : (i : ℕ) → length l ≤ i → length (coming i) ≡ 0
  coming_end i h = ap length (coming_none i h)

  -- from member j on, up to member i, they stand in the buffer behind what it held
  pub record Putting (j from : ℕ) (before buffer : List ℕ) (place i : ℕ) : Type 0 where
    pub done : List ℕ
    pub put : Extends from place done before buffer
    pub rest : done ++ coming i ≡ coming j

  pub putting_none : {j from : ℕ} {t : List ℕ} → Putting j from t t from j
  putting_none = record { done = []; put = extends_none; rest = refl }

  pub putting_room : {j from place i : ℕ} {t u : List ℕ} → Putting j from t u place i → place + length (coming i) ≡ from + length (coming j)
  putting_room {j} {i = i} p = omega (arith, p.put.next, ap length p.rest, length-append p.done (coming i))

  pub putting_more : {j from place i next : ℕ} {t u v : List ℕ} (z : A) → Putting j from t u place i → i < length l → Extends place next (f (get_or l i z)) u v → Putting j from t v next (i + 1)
  putting_more {i = i} z p h x =
      record {
        done = p.done ++ f (get_or l i z);
        put = extends_then p.put x;
        rest = append_assoc p.done (f (get_or l i z)) (coming (i + 1)) ∙ ap (p.done ++◌) (sym (coming_next z i h)) ∙ p.rest;
      }

  pub putting_all : {j from place i : ℕ} {t u : List ℕ} → Putting j from t u place i → length l ≤ i → Extends from place (coming j) t u
  putting_all {j} {from} {place} {i} {t} {u} p h =
      subst (λ (x : List ℕ). Extends from place x t u) (sym (append-nil p.done) ∙ ap (p.done ++◌) (sym (coming_none i h)) ∙ p.rest) p.put
