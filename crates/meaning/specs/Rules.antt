-- The typing rules that work on a type (S section 5.1): append, prime, content, filter, child, U.q and dos. Refusal 16 is at the node that asked.
-- Assumes nothing.
use Rattle.std.specs.Prelude.{ℕ, Bool, true, false, cond, List, [], ◌∷◌, ◌++◌, ltb, eqb, length}
use Rattle.meaning.specs.Base.{Out, ok, refused}
use Rattle.meaning.specs.Forests.{text, label, passes}
use Rattle.meaning.specs.Types as Types
use Rattle.meaning.specs.Types.{Entry, Table, Defs}
use Rattle.meaning.specs.Reach.{atoms_below}
use Rattle.meaning.specs.Shapes.{Shape, empty, string, element, pair, union, star, plus, opt, name, shape, Class, one, maybe, more, any}

-- STEPS over a state that is handed on: an answer with the state as it is left, or a refusal
abbrev pub Does : Type 0 → Type 0 → Type 0
Does S A = S → Out (S × A)

-- a step on the answer and the state that another left
abbrev pub after : {S A B : Type 0} → Out (S × A) → (A → Does S B) → Out (S × B)
after (ok r) f = f r.1 r.0
after (refused n place) f = refused n place

infixl 10 ◌>>=◌
abbrev pub ◌>>=◌ : {S A B : Type 0} → Does S A → (A → Does S B) → Does S B
◌>>=◌ m f = λ s. after (m s) f

abbrev pub answer : {S A : Type 0} → A → Does S A
answer x = λ s. ok (s, x)

-- an answer or refusal that leaves the state alone
abbrev pub from_out : {S A : Type 0} → Out A → Does S A
from_out (ok a) = λ s. ok (s, a)
from_out (refused n place) = λ s. refused n place

-- a rule works on the type table
abbrev pub Rule : Type 0 → Type 0
Rule A = Does Table A

-- in a type table of so many entries, for query node n
module _ (room n : ℕ) where
  -- "Each rule appends what it names, last, and answers an entry number"; 16 "type table full"
  abbrev pub append_if : Bool → Entry → Rule ℕ
  append_if true x = λ t. ok (t ++ (x ∷ []), length t)
  append_if false x = λ t. refused 16 n

  abbrev pub append : Entry → Rule ℕ
  append x = λ t. append_if (ltb (length t) room) x t

  -- "prime: atoms and () are themselves; pair and union do both sides and append a union; star, plus, opt do the child; a name its definition"
  unfoldable pub prime : Shape → Rule ℕ
  prime (empty e) = answer e
  prime (string e) = answer e
  prime (element e l c) = answer e
  prime (pair s t) = do
    x ← prime s
    y ← prime t
    append (Types.union x y)
  prime (union s t) = do
    x ← prime s
    y ← prime t
    append (Types.union x y)
  prime (star s) = prime s
  prime (plus s) = prime s
  prime (opt s) = prime s
  prime (name s) = prime s

  -- "content: union does both sides and appends a union; element answers its child; others 0"
  unfoldable pub content : Shape → Rule ℕ
  content (empty e) = answer 0
  content (string e) = answer 0
  content (element e l c) = answer c
  content (pair s t) = answer 0
  content (union s t) = do
    x ← content s
    y ← content t
    append (Types.union x y)
  content (star s) = answer 0
  content (plus s) = answer 0
  content (opt s) = answer 0
  content (name s) = answer 0

  -- "() is itself, an atom that passes is itself, one that doesn't is 0; pair, union, star, plus, opt do their parts and append their kind anew,
  -- always; a name does its definition" (S figure 8)
  unfoldable pub sift : ℕ → Shape → Rule ℕ
  sift w (empty e) = answer e
  sift w (string e) = answer (cond (passes w text) e 0)
  sift w (element e l c) = answer (cond (passes w (label l)) e 0)
  sift w (pair s t) = do
    x ← sift w s
    y ← sift w t
    append (Types.pair x y)
  sift w (union s t) = do
    x ← sift w s
    y ← sift w t
    append (Types.union x y)
  sift w (star s) = do
    x ← sift w s
    append (Types.star x)
  sift w (plus s) = do
    x ← sift w s
    append (Types.plus x)
  sift w (opt s) = do
    x ← sift w s
    append (Types.opt x)
  sift w (name s) = sift w s

  -- "filter: test 0 answers the entry itself; otherwise .."
  unfoldable pub filter : Defs → ℕ → ℕ → Rule ℕ
  filter D w e = λ t. elim (eqb w 0) [ true ↦ ok (t, e) | false ↦ sift w (shape D t e) t ]

  -- "child: content of v's type, then filter."
  unfoldable pub child_rule : Defs → ℕ → ℕ → Rule ℕ
  child_rule D w e = λ t. after (content (shape D t e) t) (λ c. filter D w c)

  -- "U.1 appends nothing; ?, +, * append opt, plus, star"
  unfoldable pub times : ℕ → Class → Rule ℕ
  times u one = answer u
  times u maybe = append (Types.opt u)
  times u more = append (Types.plus u)
  times u any = append (Types.star u)

  -- "joined by unions leaning left"
  unfoldable pub unions : ℕ → List ℕ → Rule ℕ
  unions x [] = answer x
  unions x (y ∷ ys) = do
    u ← append (Types.union x y)
    unions u ys

  -- "then append star. One atom: star alone. None: 0."
  unfoldable pub star_of : List ℕ → Rule ℕ
  star_of [] = answer 0
  star_of (x ∷ xs) = do
    u ← unions x xs
    append (Types.star u)

  -- "dos: the atoms .. reached from v's type .. joined by unions leaning left; then append star"
  unfoldable pub dos_rule : Defs → ℕ → ℕ → Rule ℕ
  dos_rule D w e = λ t. star_of (atoms_below w D t e) t
