-- Words stored in a lent table, and a lent table read as type entries, as query nodes and as declared variables.
-- Assumes nothing.
use Rattle.std.specs.Prelude.{List, [], ◌∷◌, ◌++◌, ℕ, zero, suc, ◌+◌, ◌*◌, length, get_or, take, drop}
use Rattle.meaning.specs.Base.{type_width, code_width}
use Rattle.meaning.specs.Types.{Entry, Table, entry_of}
use Rattle.meaning.specs.Records.{Node, node, Var, var_of}

-- a list with these words from a place on
unfoldable pub stored : List ℕ → ℕ → List ℕ → List ℕ
stored t at ws = take at t ++ (ws ++ drop (at + length ws) t)

-- the entry and the node whose words stand at their places
abbrev pub entry_at : List ℕ → ℕ → Entry
entry_at ws e = entry_of (get_or ws (type_width * e) 0) (get_or ws (type_width * e + 1) 0) (get_or ws (type_width * e + 2) 0)

abbrev pub node_in : List ℕ → ℕ → Node
node_in ws n = node (get_or ws (code_width * n) 0) (get_or ws (code_width * n + 1) 0) (get_or ws (code_width * n + 2) 0) (get_or ws (code_width * n + 3) 0)

-- a declared variable is three words: 17 or 18, its number, its type
abbrev pub var_in : List ℕ → ℕ → ℕ × Var
var_in ws i = (get_or ws (3 * i + 1) 0, var_of (get_or ws (3 * i) 0) (get_or ws (3 * i + 2) 0))

-- the first so many of them
unfoldable pub table_of : List ℕ → ℕ → Table
table_of ws zero = []
table_of ws (suc n) = table_of ws n ++ (entry_at ws n ∷ [])

unfoldable pub code_of : List ℕ → ℕ → List Node
code_of ws zero = []
code_of ws (suc n) = code_of ws n ++ (node_in ws n ∷ [])

unfoldable pub vars_of : List ℕ → ℕ → List (ℕ × Var)
vars_of ws zero = []
vars_of ws (suc n) = vars_of ws n ++ (var_in ws n ∷ [])
