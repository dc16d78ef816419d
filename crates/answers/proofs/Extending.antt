-- A lent buffer written on: what is stored right behind what it holds, it holds behind that; and one part behind another.
-- Assumes nothing.
use mathlib.Core.Path.{◌≡◌, refl, ap, sym, ◌∙◌, subst}
use mathlib.Core.List.{List, [], ◌∷◌, ◌++◌, append_assoc, append-nil}
use Prim.Native.Nat.{ℕ, ◌+◌, ◌≤◌}
use native.Mathlib.Omega.{arith}
use lib.ListN.{length, take, drop, length-append}
use lib.Seq.{length-take-le, take-append-add}
use Rattle.meaning.specs.Base.{bytes_of}
use Rattle.words.specs.Tables.{stored}
use Rattle.answers.specs.Parts.{Holds, Extends}

pub extends_none : {from : ℕ} {t : List ℕ} → Extends from from [] t t
extends_none {from} {t} =
    record { next = omega arith; behind = λ {ws} h. subst (λ (x : List ℕ). Holds from x t) (sym (append-nil ws)) h }

pub extends_then : {a b c : ℕ} {m n t u v : List ℕ} → Extends a b m t u → Extends b c n u v → Extends a c (m ++ n) t v
extends_then {c = c} {m = m} {n = n} {v = v} one two =
    record {
      next = omega (arith, one.next, two.next, length-append m n);
      behind = λ {ws} h. subst (λ (x : List ℕ). Holds c x v) (append_assoc ws m n) (two.behind (one.behind h));
    }

-- one word
pub extends_word : {t u : List ℕ} {at to : ℕ} (w : ℕ) → u ≡ stored t at (bytes_of (w ∷ [])) → at + 2 ≤ length t → to ≡ at + 2 → Extends at to (bytes_of (w ∷ [])) t u
unfolding bytes_of stored
extends_word {t} {u} {at} {to} w e l n =
    let two = bytes_of (w ∷ []) in
    let p : length (take at t) + 2 ≡ to = omega (arith, n, length-take-le at t (omega arith)) in
    record {
      next = n;
      behind = λ {ws} h.
          record {
            sized = omega (arith, h.sized, length-append ws two);
            is = ap (take to) e ∙ ap (λ (k : ℕ). take k (take at t ++ (two ++ drop (at + 2) t))) (sym p) ∙ take-append-add (take at t) (two ++ drop (at + 2) t) 2 ∙ ap (λ (x : List ℕ). x ++ two) h.is;
          };
    }

-- the words that a record begins with
pub start_put : {t u v : List ℕ} {at : ℕ} (size kind : ℕ) → u ≡ stored t at (bytes_of (size ∷ [])) → v ≡ stored u (at + 2) (bytes_of (kind ∷ [])) → at + 4 ≤ length t → length u ≡ length t → Extends at (at + 4) (bytes_of (size ∷ kind ∷ [])) t v
unfolding bytes_of
start_put {at = at} size kind p q l m = extends_then {b = at + 2} (extends_word size p (omega arith) refl) (extends_word kind q (omega arith) (omega arith))

-- the record of one field, and of two
pub one_put : {t u v : List ℕ} {at : ℕ} (kind a : ℕ) → Extends at (at + 4) (bytes_of (6 ∷ kind ∷ [])) t u → v ≡ stored u (at + 4) (bytes_of (a ∷ [])) → at + 6 ≤ length u → Extends at (at + 6) (bytes_of (6 ∷ kind ∷ a ∷ [])) t v
unfolding bytes_of
one_put kind a x e l = extends_then x (extends_word a e (omega arith) (omega arith))

pub two_put : {t u v w : List ℕ} {at : ℕ} (kind a b : ℕ) → Extends at (at + 4) (bytes_of (8 ∷ kind ∷ [])) t u → v ≡ stored u (at + 4) (bytes_of (a ∷ [])) → w ≡ stored v (at + 6) (bytes_of (b ∷ [])) → at + 8 ≤ length u → length v ≡ length u
    → Extends at (at + 8) (bytes_of (8 ∷ kind ∷ a ∷ b ∷ [])) t w
unfolding bytes_of
two_put {at = at} kind a b x e f l m = extends_then x (extends_then {b = at + 6} (extends_word a e (omega arith) (omega arith)) (extends_word b f (omega arith) (omega arith)))

-- what a buffer holds when something was written from its front
pub all_held : {to : ℕ} {more t u : List ℕ} → Extends 0 to more t u → take to u ≡ more
all_held x = (x.behind {ws = []} (record { sized = refl; is = refl })).is
