-- A declared variable by its three words, and the variable at a place among those that are declared.
-- Assumes nothing.
use Rattle.std.specs.Prelude.{List, ℕ, get_or}
use Rattle.meaning.specs.Records.{Var, var_of}
use Rattle.words.specs.declared.Entry.{Entry}

-- its number, and what it is by its kind and type
abbrev pub var_in : Entry → ℕ × Var
var_in x = (x.a, var_of x.kind x.b)

abbrev pub var_at : List (ℕ × Var) → ℕ → ℕ × Var
var_at vars i = get_or vars i (0, var_of 0 0)
