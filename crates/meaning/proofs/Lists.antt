-- Laws of what stands at a place of a list, of what stands in it, and of a list that grows at its end.
-- Assumes nothing.
use mathlib.Core.Path.{◌≡◌, refl, ap, sym, ◌∙◌}
use mathlib.Core.Bool.{Bool, true, false, ◌&&◌}
use mathlib.Core.List.{List, [], ◌∷◌, ◌++◌, append_assoc, append-nil}
use mathlib.Core.Option.{none, some}
use Prim.Native.Nat.{ℕ, suc, zero, ◌≤◌, ◌<◌}
use native.Mathlib.Omega.{arith}
use lib.ListN.{length, get_or, get_elem?, length-append}
use Rattle.meaning.specs.Base.{At, In, first, later, concat_map}

pub absurd_option : {A B : Type 0} {x : A} → none ≡ some x → B
absurd_option p = let z : ◌≡◌ {A = ℕ} 0 1 = cc in absurd (omega arith)

pub never : {A : Type 0} → false ≡ true → A
never p = let z : ◌≡◌ {A = ℕ} 0 1 = cc in absurd (omega arith)

-- both of two tests
pub both_true : (b c : Bool) → b && c ≡ true → (b ≡ true) × (c ≡ true)
both_true true c e = (refl, e)
both_true false c e = never e

-- AT
pub at_one : {A : Type 0} {l : List A} {n : ℕ} {x y : A} → At l n x → At l n y → x ≡ y
at_one p q = let a = p.is in let b = q.is in cc

low_of : {A : Type 0} (l : List A) (n : ℕ) (x : A) → get_elem? l n ≡ some x → n < length l
low_of [] n x p = absurd_option p
low_of (y ∷ l) zero x p = omega arith
low_of (y ∷ l) (suc n) x p = omega (arith, low_of l n x p)

pub at_low : {A : Type 0} {l : List A} {n : ℕ} {x : A} → At l n x → n < length l
at_low {l = l} {n = n} {x = x} p = low_of l n x p.is

get_or_of : {A : Type 0} (l : List A) (n : ℕ) (x z : A) → get_elem? l n ≡ some x → get_or l n z ≡ x
get_or_of [] n x z p = absurd_option p
get_or_of (y ∷ l) zero x z p = cc
get_or_of (y ∷ l) (suc n) x z p = get_or_of l n x z p

pub at_get_or : {A : Type 0} {l : List A} {n : ℕ} {x : A} → At l n x → (z : A) → get_or l n z ≡ x
at_get_or {l = l} {n = n} {x = x} p z = get_or_of l n x z p.is

some_of : {A : Type 0} (l : List A) (n : ℕ) (z : A) → n < length l → get_elem? l n ≡ some (get_or l n z)
some_of [] n z p = absurd (omega arith)
some_of (y ∷ l) zero z p = refl
some_of (y ∷ l) (suc n) z p = some_of l n z (omega arith)

-- what stands there is what `get_or` gives, whatever its default
pub at_is : {A : Type 0} (l : List A) (n : ℕ) (z : A) → n < length l → At l n (get_or l n z)
at_is l n z p = record { is = some_of l n z p }

append_of : {A : Type 0} (l m : List A) (n : ℕ) (x : A) → get_elem? l n ≡ some x → get_elem? (l ++ m) n ≡ some x
append_of [] m n x h = absurd_option h
append_of (y ∷ l) m zero x h = h
append_of (y ∷ l) m (suc n) x h = append_of l m n x h

pub at_append : {A : Type 0} {l : List A} {n : ℕ} {x : A} (m : List A) → At l n x → At (l ++ m) n x
at_append {l = l} {n = n} {x = x} m p = record { is = append_of l m n x p.is }

last_of : {A : Type 0} (l : List A) (x : A) → get_elem? (l ++ (x ∷ [])) (length l) ≡ some x
last_of [] x = refl
last_of (y ∷ l) x = last_of l x

pub at_last : {A : Type 0} (l : List A) (x : A) → At (l ++ (x ∷ [])) (length l) x
at_last l x = record { is = last_of l x }

old_of : {A : Type 0} (l : List A) (x : A) (i : ℕ) (y : A) (P : Type 0) → get_elem? (l ++ (x ∷ [])) i ≡ some y → (get_elem? l i ≡ some y → P) → (i ≡ length l → x ≡ y → P) → P
old_of [] x zero y P p f g = g refl (cc)
old_of [] x (suc i) y P p f g = absurd_option p
old_of (z ∷ l) x zero y P p f g = f p
old_of (z ∷ l) x (suc i) y P p f g = old_of l x i y P p f (λ e q. g (ap suc e) q)

-- an entry of a list with one more is an old one or the new one
pub at_old : {A : Type 0} {l : List A} {x : A} {i : ℕ} {y : A} (P : Type 0) → At (l ++ (x ∷ [])) i y → (At l i y → P) → (i ≡ length l → x ≡ y → P) → P
at_old {l = l} {x = x} {i = i} {y = y} P p f g = old_of l x i y P p.is (λ q. f (record { is = q })) g

-- two lists joined, whose first parts are of one length, are the same only if both parts are
pub append_parts : {A : Type 0} (a c b d : List A) → length a ≡ length c → a ++ b ≡ c ++ d → (a ≡ c) × (b ≡ d)
append_parts [] [] b d n e = (refl, e)
append_parts [] (y ∷ c) b d n e = absurd (omega arith)
append_parts (x ∷ a) [] b d n e = absurd (omega arith)
append_parts (x ∷ a) (y ∷ c) b d n e = go (append_parts a c b d (omega arith) (cc))
  where
    go : (a ≡ c) × (b ≡ d) → (x ∷ a ≡ y ∷ c) × (b ≡ d)
    go p = (cc, p.1)

-- the parts of two lists joined are those of the first, then those of the second
pub concat_append : {A B : Type 0} (f : A → List B) (l m : List A) → concat_map f (l ++ m) ≡ concat_map f l ++ concat_map f m
unfolding concat_map
concat_append f [] m = refl
concat_append f (x ∷ l) m = rw (append_assoc, concat_append f l m)

-- IN
pub in_left : {A : Type 0} {x : A} {l : List A} (m : List A) → In x l → In x (l ++ m)
in_left m first = first
in_left m (later h) = later (in_left m h)

pub in_right : {A : Type 0} {x : A} (l : List A) {m : List A} → In x m → In x (l ++ m)
in_right [] h = h
in_right (y ∷ l) h = later (in_right l h)

-- a property of a list's head and of its tail's members is one of all its members
pub in_cons : {A : Type 0} {P : A → Type 0} {y : A} {l : List A} → P y → ((x : A) → In x l → P x) → (x : A) → In x (y ∷ l) → P x
in_cons h k x first = h
in_cons h k x (later i) = k x i

pub in_none : {A : Type 0} {P : Type 0} {x : A} → In x [] → P
in_none = elim [ ]

-- a property of both parts' members is one of all members; what stands at a place is a member; `get_or` gives a member or the default
pub in_both : {A : Type 0} {P : A → Type 0} (l : List A) {m : List A} → ((x : A) → In x l → P x) → ((x : A) → In x m → P x) → (x : A) → In x (l ++ m) → P x
in_both [] h k = k
in_both (y ∷ l) h k = in_cons (h y first) (in_both l (λ x i. h x (later i)) k)

in_of : {A : Type 0} (l : List A) (n : ℕ) (x : A) → get_elem? l n ≡ some x → In x l
in_of [] n x e = absurd_option e
in_of (y ∷ l) zero x e = let p : x ≡ y = cc in rw p first
in_of (y ∷ l) (suc n) x e = later (in_of l n x e)

pub at_in : {A : Type 0} {l : List A} {n : ℕ} {x : A} → At l n x → In x l
at_in {l = l} {n = n} {x = x} p = in_of l n x p.is

pub get_or_has : {A : Type 0} {P : A → Type 0} (l : List A) (n : ℕ) (z : A) → ((x : A) → In x l → P x) → P z → P (get_or l n z)
get_or_has [] n z h p = p
get_or_has (y ∷ l) zero z h p = h y first
get_or_has (y ∷ l) (suc n) z h p = get_or_has l n z (λ x i. h x (later i)) p

-- GROWING: U is T with more at its end
pub record Grows {A : Type 0} (T U : List A) : Type 0 where
  pub tail : List A
  pub is : U ≡ T ++ tail

pub grows_refl : {A : Type 0} {T : List A} → Grows T T
grows_refl {T = T} = record { tail = []; is = sym (append-nil T) }

pub grows_trans : {A : Type 0} {T U W : List A} → Grows T U → Grows U W → Grows T W
grows_trans {T = T} g h = record { tail = g.tail ++ h.tail; is = h.is ∙ ap (◌++ h.tail) g.is ∙ append_assoc T g.tail h.tail }

pub grows_one : {A : Type 0} (T : List A) (x : A) → Grows T (T ++ (x ∷ []))
grows_one T x = record { tail = x ∷ []; is = refl }

pub grows_length : {A : Type 0} {T U : List A} → Grows T U → length T ≤ length U
grows_length {T = T} {U = U} g = omega (arith, ap length g.is, length-append T g.tail)

-- what stands somewhere stays there
pub at_grows : {A : Type 0} {T U : List A} {n : ℕ} {x : A} → Grows T U → At T n x → At U n x
at_grows {T = T} {n = n} {x = x} g h = rw g.is (at_append g.tail h)
