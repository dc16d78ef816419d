-- Marks: which entries of a type table have nothing but unions of atoms; what is asked of types and of variables.
-- Assumes nothing.
use Rattle.std.specs.Prelude.{◌≡◌, ◌&&◌, Bool, true, false, List, ℕ, ◌<◌, get_or}
use Rattle.meaning.specs.Base.{At}
use Rattle.meaning.specs.Types as Types
use Rattle.meaning.specs.Types.{Entry, Table, Defs}
use Rattle.meaning.specs.Shapes.{shape, is_atoms}
use Rattle.meaning.specs.Records.{Var, type_in}
use Rattle.meaning.specs.Formed.{Formed}

-- the first n entries have their marks: those that refusal 11 lets pass, and no others
pub record Marked (D : Defs) (T : Table) (n : ℕ) (marks : List Bool) : Type 0 where
  pub is : (e : ℕ) → e < n → get_or marks e false ≡ is_atoms (shape D T e)

-- the mark of an entry from those of lower ones: text and an element are one atom, and a union goes by its parts
abbrev pub mark_of : List Bool → Entry → Bool
mark_of marks Types.empty = false
mark_of marks Types.string = true
mark_of marks (Types.element l c) = true
mark_of marks (Types.pair a b) = false
mark_of marks (Types.union a b) = get_or marks a false && get_or marks b false
mark_of marks (Types.star a) = false
mark_of marks (Types.plus a) = false
mark_of marks (Types.opt a) = false
mark_of marks (Types.name d) = false

-- where an entry is a union, its parts are among the first n
pub record Parts (n : ℕ) (x : Entry) : Type 0 where
  pub low : (a b : ℕ) → x ≡ Types.union a b → (a < n) × (b < n)

-- types that are formed with some definitions
pub record Typed (T : Table) : Type 0 where
  pub defs : Defs
  pub formed : Formed defs T

-- the variables' types are among the first n entries
pub record Scoped (n : ℕ) (vars : List (ℕ × Var)) : Type 0 where
  pub low : (i v : ℕ) (x : Var) → At vars i (v, x) → type_in x < n
