-- Bytes spelled into a lent buffer one behind the other; a number's digits; a word or a sign by its number.
-- Assumes nothing.
use mathlib.Core.Path.{◌≡◌, refl, sym, ap, subst, ◌∙◌}
use mathlib.Core.Bool.{Bool, true, false}
use mathlib.Core.Logic.{◌≢◌}
use mathlib.Core.List.{List, [], ◌∷◌, ◌++◌, append_assoc, append-nil}
use mathlib.Core.Option.{Option, none, some}
use Prim.Native.Nat.{ℕ, zero, suc, ◌+◌, ◌-◌, ◌/◌, ◌%◌, ◌≤◌, ◌<◌}
use native.Mathlib.Omega.{arith}
use lib.ListN.{length, take, length-append}
use lib.Dec.{leb, ltb, eqb}
use borrow.Author.Tests.{lt-ltb, le-ltb, ltb-true, ltb-false, leb-true}
use Rattle.meaning.specs.Base.{find, otherwise}
use Rattle.meaning.specs.Tokens.{words, signs}
use Rattle.meaning.specs.Written.{digits, piece_bytes}
use Rattle.meaning.proofs.Finding.{find_row, test_rows}
use Rattle.spelling.specs.Says.{Spells, spelled}

pub spells_none : {from : ℕ} {t : List ℕ} → Spells from from [] t t
spells_none {from} {t} = record { next = omega arith; long = refl; behind = λ h. sym (append-nil (take from t)) }

pub spells_then : {a b c : ℕ} {m n t u v : List ℕ} → Spells a b m t u → Spells b c n u v → Spells a c (m ++ n) t v
spells_then {a} {b} {c} {m} {n} {t} {u} {v} one two =
    record {
      next = omega (arith, one.next, two.next, length-append m n);
      long = two.long ∙ one.long;
      behind = λ h.
          let k : c ≤ length u = omega (arith, one.long) in
          let l : b ≤ length t = omega (arith, two.next) in
          two.behind k ∙ ap (λ (x : List ℕ). x ++ n) (one.behind l) ∙ append_assoc (take a t) m n;
    }

-- DIGITS: one, or one more
pub digits_one : (k n : ℕ) → n < 10 → digits (suc k) n ≡ (48 + n) ∷ []
unfolding digits
digits_one k n h = simp (digits, lt-ltb n 10 h)

pub digits_more : (k n : ℕ) → 10 ≤ n → digits (suc k) n ≡ digits k (n / 10) ++ ((48 + n % 10) ∷ [])
unfolding digits
digits_more k n h = simp (digits, le-ltb n 10 h)

-- no more than asked for
most_of : (k n : ℕ) → ((m : ℕ) → length (digits k m) ≤ k) → (b : Bool) → ltb n 10 ≡ b → length (digits (suc k) n) ≤ suc k
most_of k n f true h = omega (arith, ap length (digits_one k n (ltb-true n 10 h)))
most_of k n f false h = omega (arith, ap length (digits_more k n (ltb-false n 10 h)), length-append (digits k (n / 10)) ((48 + n % 10) ∷ []), f (n / 10))

pub digits_most : (k n : ℕ) → length (digits k n) ≤ k
unfolding digits
digits_most zero n = omega arith
digits_most (suc k) n = most_of k n (digits_most k) (ltb n 10) refl

-- PUTTING a number of at most k digits
pub none_put : {at k : ℕ} (n : ℕ) {t : List ℕ} → k ≡ 0 → Spells at at (digits k n) t t
unfolding digits
none_put n e = rw e spells_none

pub one_put : {at k n d : ℕ} {t u : List ℕ} → k ≢ 0 → n < 10 → d ≡ 48 + n → Spells at (at + 1) (d ∷ []) t u → Spells at (at + 1) (digits k n) t u
one_put {at} {k} {n} {d} {t} {u} z h e x =
    let p : k ≡ suc (k - 1) = omega arith in
    subst (λ (l : List ℕ). Spells at (at + 1) l t u) (ap (λ (m : ℕ). m ∷ []) e ∙ sym (digits_one (k - 1) n h) ∙ ap (λ (j : ℕ). digits j n) (sym p)) x

pub more_put : {at to k n d : ℕ} {t u v : List ℕ} → k ≢ 0 → 10 ≤ n → d ≡ 48 + n % 10 → Spells at to (digits (k - 1) (n / 10)) t u → Spells to (to + 1) (d ∷ []) u v → Spells at (to + 1) (digits k n) t v
more_put {at} {to} {k} {n} {d} {t} {v = v} z h e x y =
    let p : k ≡ suc (k - 1) = omega arith in
    subst (λ (l : List ℕ). Spells at (to + 1) l t v) (ap (λ (m : ℕ). digits (k - 1) (n / 10) ++ (m ∷ [])) e ∙ sym (digits_more (k - 1) n h) ∙ ap (λ (j : ℕ). digits j n) (sym p)) (spells_then x y)

-- A PIECE IS SHORT: no more than six bytes
short : ℕ → List ℕ → Bool
short k w = leb (length w) 6

found_short : (k : ℕ) (o : Option (List ℕ)) → find k (words ++ signs) ≡ o → length (otherwise [] o) ≤ 6
unfolding words signs short
found_short k none e = omega arith
found_short k (some w) e = leb-true (length w) 6 (find_row k w (test_rows short (words ++ signs) refl) e)

piece_of : (k v : ℕ) (c : Bool) → length {A = ℕ} (elim c as (λ _. List ℕ) [ true ↦ digits 5 v | false ↦ spelled k ]) ≤ 6
piece_of k v true = omega (arith, digits_most 5 v)
piece_of k v false = found_short k (find k (words ++ signs)) refl

pub piece_short : (k v : ℕ) → length (piece_bytes (k, v)) ≤ 6
piece_short k v = piece_of k v (eqb k 2)
