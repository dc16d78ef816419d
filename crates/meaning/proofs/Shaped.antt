-- The shape of an entry as a relation: names unfolded down to atoms and ().
-- Assumes nothing.
use Prim.Native.Nat.{ℕ}
use Rattle.meaning.specs.Base.{At}
use Rattle.meaning.specs.Types as Types
use Rattle.meaning.specs.Types.{Table, Defs}
use Rattle.meaning.specs.Shapes.{Shape, empty, string, element, pair, union, star, plus, opt, name}

-- the entry e has the shape s
pub data Shaped (D : Defs) (T : Table) : ℕ → Shape → Type 0 where
  is_empty : {e : ℕ} → At T e Types.empty → Shaped D T e (empty e)
  is_string : {e : ℕ} → At T e Types.string → Shaped D T e (string e)
  is_element : {e l c : ℕ} → At T e (Types.element l c) → Shaped D T e (element e l c)
  is_pair : {e a b : ℕ} {s t : Shape} → At T e (Types.pair a b) → Shaped D T a s → Shaped D T b t → Shaped D T e (pair s t)
  is_union : {e a b : ℕ} {s t : Shape} → At T e (Types.union a b) → Shaped D T a s → Shaped D T b t → Shaped D T e (union s t)
  is_star : {e a : ℕ} {s : Shape} → At T e (Types.star a) → Shaped D T a s → Shaped D T e (star s)
  is_plus : {e a : ℕ} {s : Shape} → At T e (Types.plus a) → Shaped D T a s → Shaped D T e (plus s)
  is_opt : {e a : ℕ} {s : Shape} → At T e (Types.opt a) → Shaped D T a s → Shaped D T e (opt s)
  is_name : {e d c : ℕ} {s : Shape} → At T e (Types.name d) → At D d c → Shaped D T c s → Shaped D T e (name s)
