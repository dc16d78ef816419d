-- The array of classes, one word for each type entry: what a word means, when it is its entry's class, and what filling asks and does.
-- Assumes nothing.
use Rattle.std.specs.Prelude.{◌≡◌, false, ◌||◌, List, ℕ, ◌<◌, ◌≤◌, eqb, length, get_or}
use Rattle.std.proofs.Math.Option.{none}
use Rattle.meaning.specs.Base.{In}
use Rattle.meaning.specs.Types.{Entry, Table, Defs, name_of}
use Rattle.meaning.specs.Reach.{steps_of}
use Rattle.meaning.specs.Formed.{Formed}
use Rattle.meaning.specs.Shapes.{Class, one, maybe, more, any, allowing, expand, shape, quant}
use Rattle.classes.specs.declared.Class.{Class as Code}

-- the words of the classes 1, ?, + and *; and back
unfoldable pub code_of : Class → ℕ
code_of one = 1
code_of maybe = 2
code_of more = 3
code_of any = 4

unfoldable pub class_of : ℕ → Class
class_of c = allowing (eqb c 2 || eqb c 4) (eqb c 3 || eqb c 4)

-- the class that the code's enum is
abbrev pub meant : Code → Class
meant Code.One = one
meant Code.Maybe = maybe
meant Code.More = more
meant Code.Any = any

-- the word at entry e is its class
abbrev pub Right : Defs → Table → List ℕ → ℕ → Type 0
Right D T cs e = get_or cs e 0 ≡ code_of (quant (shape D T e))

-- the word of every entry is
pub record Filled (D : Defs) (T : Table) (cs : List ℕ) : Type 0 where
  pub right : (e : ℕ) → e < length T → Right D T cs e

-- the words of what stands directly in an entry are
abbrev pub Parts : Defs → Table → List ℕ → Entry → Type 0
Parts D T cs x = (i : ℕ) → In i (steps_of false D x) → Right D T cs i

-- r is the class of an entry x that is no name, wherever the words of what stands in it are right
pub record From (cs : List ℕ) (x : Entry) (r : ℕ) : Type 0 where
  pub is : (D : Defs) (T : Table) (e : ℕ) → name_of x ≡ none → Parts D T cs x → r ≡ code_of (quant (expand D e (λ i. shape D T i) x))

-- what filling asks: a table of types, formed with the definitions D, and a word for each of its entries
pub record Place (D : Defs) (T : Table) (cs : List ℕ) : Type 0 where
  pub formed : Formed D T
  pub long : length T ≤ length cs
