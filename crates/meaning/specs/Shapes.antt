-- The shape of a type: its top level with names unfolded. prime, quant, filter, content and refusal 11 go by it. The classes of quant.
-- Assumes nothing.
use Rattle.std.specs.Prelude.{ℕ, zero, suc, ◌*◌, Bool, true, false, ◌&&◌, ◌||◌, get_or}
use Rattle.meaning.specs.Types as Types
use Rattle.meaning.specs.Types.{Entry, Table, Defs, at}

-- What stands at the top level of a type, down to its atoms and (). These keep their entry's number, an element its label and child too.
pub data Shape : Type 0 where
  empty string : ℕ → Shape
  element : ℕ → ℕ → ℕ → Shape
  pair union : Shape → Shape → Shape
  star plus opt name : Shape → Shape

-- the shape of entry e, which is x, from the shapes of the entries that x names
unfoldable pub expand : Defs → ℕ → (ℕ → Shape) → Entry → Shape
expand D e f Types.empty = empty e
expand D e f Types.string = string e
expand D e f (Types.element l c) = element e l c
expand D e f (Types.pair a b) = pair (f a) (f b)
expand D e f (Types.union a b) = union (f a) (f b)
expand D e f (Types.star a) = star (f a)
expand D e f (Types.plus a) = plus (f a)
expand D e f (Types.opt a) = opt (f a)
expand D e f (Types.name d) = name (f (get_or D d 0))

-- read k deep
unfoldable pub shape_in : ℕ → Defs → Table → ℕ → Shape
shape_in zero D t e = empty e
shape_in (suc k) D t e = expand D e (λ i. shape_in k D t i) (at t e)

-- Past 9 and 10 no shape is deeper (`shape_law`): each of 64 definitions is met at most once, and between two of them the entries fall.
abbrev pub deepest : ℕ
deepest = 65 * 4096

abbrev pub shape : Defs → Table → ℕ → Shape
shape D t e = shape_in deepest D t e

-- CLASSES: 1, ?, +, *
pub data Class : Type 0 where
  one maybe more any : Class

-- "A class may allow none (? and *) or many (+ and *)."
unfoldable pub none : Class → Bool
none one = false
none maybe = true
none more = false
none any = true

unfoldable pub many : Class → Bool
many one = false
many maybe = false
many more = true
many any = true

-- the class that allows so
unfoldable pub allowing : Bool → Bool → Class
allowing false false = one
allowing true false = maybe
allowing false true = more
allowing true true = any

-- "allow none if either does, many if either does"
abbrev pub either : Class → Class → Class
either p q = allowing (none p || none q) (many p || many q)

-- "',' allows none if both do and always allows many, as S figure 7; '|' and '.' .. if either does"
unfoldable pub comma : Class → Class → Class
comma p q = allowing (none p && none q) true

unfoldable pub bar : Class → Class → Class
bar p q = either p q

unfoldable pub dot : Class → Class → Class
dot p q = either p q

-- "() is ?; an atom 1; pair, union by ',' and '|'; star, plus, opt are the child's with .*, .+, .?; a name its definition's" (S definition 5.2)
unfoldable pub quant : Shape → Class
quant (empty e) = maybe
quant (string e) = one
quant (element e l c) = one
quant (pair s t) = comma (quant s) (quant t)
quant (union s t) = bar (quant s) (quant t)
quant (star s) = dot (quant s) any
quant (plus s) = dot (quant s) more
quant (opt s) = dot (quant s) maybe
quant (name s) = quant s

-- REFUSAL 11. "unions of atoms"
unfoldable pub is_atoms : Shape → Bool
is_atoms (empty e) = false
is_atoms (string e) = true
is_atoms (element e l c) = true
is_atoms (pair s t) = false
is_atoms (union s t) = is_atoms s && is_atoms t
is_atoms (star s) = false
is_atoms (plus s) = false
is_atoms (opt s) = false
is_atoms (name s) = false
