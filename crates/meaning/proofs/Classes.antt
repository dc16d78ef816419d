-- Classes: how many trees fit one, the laws of its three operators, and S figure 7.
-- Assumes nothing.
use mathlib.Core.Path.{◌≡◌, refl}
use mathlib.Core.Bool.{Bool, true, false, ◌&&◌, ◌||◌}
use mathlib.Core.List.{List, [], ◌∷◌, map}
use Prim.Native.Nat.{ℕ, ◌+◌, ◌≤◌}
use native.Mathlib.Omega.{arith}
use Rattle.meaning.specs.Base.{concat_map}
use Rattle.meaning.specs.Shapes.{Class, one, maybe, more, any, none, many, allowing, comma, bar, dot}

-- so many trees fit a class: it allows none if there is none, and many if there are two or more
pub record Fitting (q : Class) (n : ℕ) : Type 0 where
  pub empty : n ≡ 0 → none q ≡ true
  pub several : 2 ≤ n → many q ≡ true

none_of : (a b : Bool) → none (allowing a b) ≡ a
unfolding none allowing
none_of false false = refl
none_of true false = refl
none_of false true = refl
none_of true true = refl

many_of : (a b : Bool) → many (allowing a b) ≡ b
unfolding many allowing
many_of false false = refl
many_of true false = refl
many_of false true = refl
many_of true true = refl

or_left : (a b : Bool) → a ≡ true → a || b ≡ true
or_left a b p = rw p

or_right : (a b : Bool) → b ≡ true → a || b ≡ true
or_right true b p = refl
or_right false b p = p

allowed : (a b : Bool) (n : ℕ) → (n ≡ 0 → a ≡ true) → (2 ≤ n → b ≡ true) → Fitting (allowing a b) n
allowed a b n h k = record { empty = λ z. rw (none_of a b) (h z); several = λ z. rw (many_of a b) (k z) }

-- ",": trees of one and then of the other
pub fitting_comma : {p q : Class} {m n : ℕ} → Fitting p m → Fitting q n → Fitting (comma p q) (m + n)
unfolding comma
fitting_comma {p} {q} {m} {n} h k = allowed (none p && none q) true (m + n) (λ z. rw (h.empty (omega arith)) (k.empty (omega arith))) (λ z. refl)

-- "|": trees of either
pub fitting_left : {p : Class} (q : Class) {n : ℕ} → Fitting p n → Fitting (bar p q) n
unfolding bar
fitting_left {p} q {n} h = allowed (none p || none q) (many p || many q) n (λ z. or_left (none p) (none q) (h.empty z)) (λ z. or_left (many p) (many q) (h.several z))

pub fitting_right : (p : Class) {q : Class} {n : ℕ} → Fitting q n → Fitting (bar p q) n
unfolding bar
fitting_right p {q} {n} h = allowed (none p || none q) (many p || many q) n (λ z. or_right (none p) (none q) (h.empty z)) (λ z. or_right (many p) (many q) (h.several z))

-- ".": trees of the first, so often as the second allows: not at all, once, or more often
pub fitting_never : (p q : Class) → none q ≡ true → Fitting (dot p q) 0
unfolding dot
fitting_never p q h = allowed (none p || none q) (many p || many q) 0 (λ z. or_right (none p) (none q) h) (λ z. absurd (omega arith))

pub fitting_once : {p : Class} (q : Class) {n : ℕ} → Fitting p n → Fitting (dot p q) n
unfolding dot
fitting_once {p} q {n} h = allowed (none p || none q) (many p || many q) n (λ z. or_left (none p) (none q) (h.empty z)) (λ z. or_left (many p) (many q) (h.several z))

pub fitting_again : {p : Class} (q : Class) {m : ℕ} (n : ℕ) → many q ≡ true → Fitting p m → Fitting (dot p q) (m + n)
unfolding dot
fitting_again {p} q {m} n h k = allowed (none p || none q) (many p || many q) (m + n) (λ z. or_left (none p) (none q) (k.empty (omega arith))) (λ z. or_right (many p) (many q) h)

-- S FIGURE 7, row by row: 1, ?, +, *
abbrev pub classes : List Class
classes = one ∷ maybe ∷ more ∷ any ∷ []

abbrev pub rows_of : (Class → Class → Class) → List Class
rows_of op = concat_map (λ p. map (λ q. op p q) classes) classes

pub figure_7_comma : rows_of comma
    ≡ more ∷ more ∷ more ∷ more
    ∷ more ∷ any ∷ more ∷ any
    ∷ more ∷ more ∷ more ∷ more
    ∷ more ∷ any ∷ more ∷ any
    ∷ []
unfolding concat_map comma none many allowing
figure_7_comma = refl

pub figure_7_dot : rows_of dot
    ≡ one ∷ maybe ∷ more ∷ any
    ∷ maybe ∷ maybe ∷ any ∷ any
    ∷ more ∷ any ∷ more ∷ any
    ∷ any ∷ any ∷ any ∷ any
    ∷ []
unfolding concat_map dot none many allowing
figure_7_dot = refl
