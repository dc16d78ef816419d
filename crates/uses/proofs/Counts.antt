-- Counting: one use more, none, and those of two lists, one after the other; no number stands more often in a list than the list is long.
-- Assumes nothing.
use mathlib.Core.Path.{◌≡◌, refl, sym, ap, ◌∙◌}
use mathlib.Core.Bool.{Bool, true, false}
use mathlib.Core.List.{List, [], ◌∷◌, ◌++◌, append-nil, append_assoc}
use Prim.Native.Nat.{ℕ, suc, ◌+◌, ◌≤◌, ◌<◌}
use native.Mathlib.Omega.{arith}
use native.Mathlib.Decide.{ℕ_discrete}
use borrow.Author.Tests.{eq-eqb, ne_eqb}
use lib.Dec.{eqb}
use lib.ListN.{length, get_or, set}
use lib.Seq.{get_or-set_same, get_or-set_other}
use Rattle.meaning.specs.Base.{first, later, count, concat_map}
use Rattle.meaning.proofs.Lists.{in_cons, in_none}
use Rattle.uses.specs.Counts.{Room, Counted}

pub count_append : (q : ℕ) (ps qs : List ℕ) → count q (ps ++ qs) ≡ count q ps + count q qs
unfolding count
count_append q [] qs = omega arith
count_append q (p ∷ ps) qs = go (eqb q p) (count_append q ps qs)
  where
    go : (b : Bool) → count q (ps ++ qs) ≡ count q ps + count q qs → elim b as (λ _. ℕ) [ true ↦ suc (count q (ps ++ qs)) | false ↦ count q (ps ++ qs) ] ≡ elim b as (λ _. ℕ) [ true ↦ suc (count q ps) | false ↦ count q ps ] + count q qs
    go true h = omega arith
    go false h = h

pub count_most : (q : ℕ) (qs : List ℕ) → count q qs ≤ length qs
unfolding count
count_most q [] = omega arith
count_most q (x ∷ qs) = go (eqb q x) (count_most q qs)
  where
    go : (b : Bool) → count q qs ≤ length qs → elim b as (λ _. ℕ) [ true ↦ suc (count q qs) | false ↦ count q qs ] ≤ suc (length qs)
    go true h = omega arith
    go false h = omega arith

pub concat_more : {A B : Type 0} (f : A → List B) (l : List A) (x : A) → concat_map f (l ++ (x ∷ [])) ≡ concat_map f l ++ f x
unfolding concat_map
concat_more f [] x = append-nil (f x)
concat_more f (y ∷ l) x = ap (f y ++◌) (concat_more f l x) ∙ sym (append_assoc (f y) (concat_map f l) (f x))

-- NONE
pub counted_none : (t : List ℕ) → Counted t [] t
unfolding count
counted_none t = record { is = λ q. omega arith }

-- ONE
pub counted_one : (t : List ℕ) (x : ℕ) → x < length t → Counted t (x ∷ []) (set t x (get_or t x 0 + 1))
unfolding count
counted_one t x l = record { is = λ q. go q (ℕ_discrete q x) }
  where
    go : (q : ℕ) → Dec (q ≡ x) → get_or (set t x (get_or t x 0 + 1)) q 0 ≡ get_or t q 0 + count q (x ∷ [])
    go q (yes p) = simp (p, eq-eqb x x refl, get_or-set_same t x (get_or t x 0 + 1) 0 l, count)
    go q (no p) = simp (ne_eqb q x p, get_or-set_other t x q (get_or t x 0 + 1) 0 p, count) (omega arith)

-- ONE AFTER ANOTHER
pub counted_both : {t u w ps qs : List ℕ} → Counted t ps u → Counted u qs w → Counted t (ps ++ qs) w
counted_both {t} {u} {w} {ps} {qs} h k = record { is = λ q. omega (arith, h.is q, k.is q, count_append q ps qs) }

-- WHAT A NODE NAMES, none, one or two nodes: room for the first, and for the second when the first has been counted
pub room_one : {t qs : List ℕ} {q : ℕ} → (q ∷ []) ≡ qs → Room t qs → Room t (q ∷ [])
room_one e h = rw (← e) at h

pub room_first : {t qs : List ℕ} {p q : ℕ} → (p ∷ q ∷ []) ≡ qs → Room t qs → Room t (p ∷ [])
room_first {t} {qs} {p} {q} e h =
    let r : Room t (p ∷ q ∷ []) = rw (← e) at h in
    record { inside = in_cons {P = λ i. i < length t} (r.inside p first) (λ i. in_none); fits = λ i. omega (arith, r.fits i) }

pub room_second : {t u qs : List ℕ} {p q : ℕ} → (p ∷ q ∷ []) ≡ qs → Room t qs → length u ≡ length t → Counted t (p ∷ []) u → Room u (q ∷ [])
room_second {t} {u} {qs} {p} {q} e h l c =
    let r : Room t (p ∷ q ∷ []) = rw (← e) at h in
    record {
      inside = in_cons {P = λ i. i < length u} (rw l (r.inside q (later first))) (λ i. in_none);
      fits = λ i. omega (arith, r.fits i, c.is i, count_most i (p ∷ []));
    }

pub named_none : {t qs : List ℕ} → [] ≡ qs → Counted t qs t
named_none {t} e = rw (← e) (counted_none t)

pub named_one : {t u qs : List ℕ} {q : ℕ} → (q ∷ []) ≡ qs → Counted t (q ∷ []) u → Counted t qs u
named_one e h = rw (← e) h

pub named_two : {t u w qs : List ℕ} {p q : ℕ} → (p ∷ q ∷ []) ≡ qs → Counted t (p ∷ []) u → Counted u (q ∷ []) w → Counted t qs w
named_two e h k = rw (← e) (counted_both h k)
