-- What reading answers and leaves, in document 01's terms.
-- Assumes nothing.
use Rattle.std.specs.Prelude.{◌≡◌, List, [], ◌∷◌, ℕ, length, Result}
use Rattle.std.specs.Prelude as Std
use Rattle.std.proofs.Math.Option.{Option, none, some}
use Rattle.meaning.specs.Base.{Out, ok, refused, concat_map, zeros, padded, Caps}
use Rattle.meaning.specs.Kinds
use Rattle.meaning.specs.Types.{table_words}
use Rattle.meaning.specs.Records.{Var, tree, forest, type_in, node_words, Tables}
use Rattle.meaning.specs.Typing.{read_types, read_code}
use Rattle.refusals.specs.declared.Refusal.{Refusal}
use Rattle.refusals.specs.Says.{told}
use Rattle.reading.specs.declared.Given.{Given}
use Rattle.reading.specs.declared.Read.{Read}

abbrev pub caps : ℕ → ℕ → Caps
caps room limit = record { types = room; code = limit }

-- the words of a declared variable: 17 or 18, its number, its type
abbrev pub kind_of_var : Var → ℕ
kind_of_var (tree e) = Kinds.record·tree
kind_of_var (forest e) = Kinds.record·forest

abbrev pub var_words : ℕ × Var → List ℕ
var_words x = kind_of_var x.1 ∷ x.0 ∷ type_in x.1 ∷ []

-- the definitions and the declared variables, with zeros after them; none
abbrev pub given_of : Tables → Given
given_of t = record { defs = padded 64 t.defs; vars = padded 48 (concat_map var_words t.vars); used = length t.defs; declared = length t.vars }

abbrev pub nothing_given : Given
nothing_given = record { defs = zeros 64; vars = zeros 48; used = 0; declared = 0 }

-- an entry, if there is one
abbrev pub maybe : Option ℕ → Std.Option ℕ
maybe none = Std.None
maybe (some e) = Std.Some e

-- what reading gives of tables, and the answer
abbrev pub seen : Tables → Read
seen t = record { types = length t.types; nodes = length t.code; result = maybe t.result; given = given_of t }

unfoldable pub read_of : Out Tables → Out Read
read_of (ok t) = ok (seen t)
read_of (refused n place) = refused n place

-- WHAT READING LEAVES: its answer, and the lent tables of so many words
pub record Left (tw cw : ℕ) (r : Result Read Refusal) (u w : List ℕ) (o : Out Tables) : Type 0 where
  pub answer : told r ≡ read_of o
  pub types : u ≡ read_types tw o
  pub code : w ≡ read_code cw o

-- lent tables of so many words, and what is given beside the answer, hold the tables that were read
pub record Held (tw cw : ℕ) (u w : List ℕ) (g : Given) (count nodes : ℕ) (t : Tables) : Type 0 where
  pub entries : count ≡ length t.types
  pub nodes_are : nodes ≡ length t.code
  pub given : g ≡ given_of t
  pub types : u ≡ padded tw (table_words t.types)
  pub code : w ≡ padded cw (concat_map node_words t.code)
