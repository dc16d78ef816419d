-- The checks of the whole: 8 | 9 and 10, over types and definitions alone | 11 | 12; and reading a job, 1 to 12.
-- Assumes nothing.
use Rattle.std.specs.Prelude.{ℕ, ◌-◌, Bool, true, false, not, ◌&&◌, List, [], ◌∷◌, leb, ltb, eqb, length}
use Rattle.std.proofs.Math.Option.{Option, none, some}
use Rattle.meaning.specs.Base.{Out, ok, ◌>>=◌, require, refuse_at, find, lowest, count, concat_map, Caps}
use Rattle.meaning.specs.Types.{Table, Defs, at, name_of}
use Rattle.meaning.specs.Reach.{loops}
use Rattle.meaning.specs.Shapes.{shape, is_atoms}
use Rattle.meaning.specs.Records.{Sort, label, entry_no, def_no, var_no, any_word, query_no, cond_no, Form, forms, job, Var, tree, forest, Node, node_at, is_condition, Tables, read_records}

-- 8. "no query record, or the last is a condition", at the job's length
abbrev pub has_root : List Node → Bool
has_root code = ltb 0 (length code) && not (is_condition (node_at code (length code - 1)).kind)

unfoldable pub check_root : ℕ → List Node → Out (Unit {0})
check_root n code = require (has_root code) 8 n

-- 9. "name without definition", at the lowest entry
abbrev pub is_undefined : Defs → Option ℕ → Bool
is_undefined D none = false
is_undefined D (some d) = leb (length D) d

abbrev pub undefined_name : Defs → Table → ℕ → Bool
undefined_name D t e = is_undefined D (name_of (at t e))

-- 10. "definition reaches itself without entering an element", at the lowest definition
unfoldable pub check_types : Defs → Table → Out (Unit {0})
check_types D t = do
  _ ← refuse_at 9 (lowest (undefined_name D t) (length t))
  refuse_at 10 (lowest (loops D t) (length D))

-- 11. "tree variable's type has other than unions of atoms", at the variable, first declared
abbrev pub is_tangled : Defs → Table → Var → Bool
is_tangled D t (tree e) = not (is_atoms (shape D t e))
is_tangled D t (forest e) = false

unfoldable pub tangled : Defs → Table → List (ℕ × Var) → Option ℕ
tangled D t [] = none
tangled D t (x ∷ xs) = elim (is_tangled D t x.1) [ true ↦ some x.0 | false ↦ tangled D t xs ]

unfoldable pub check_vars : Defs → Table → List (ℕ × Var) → Out (Unit {0})
check_vars D t vars = refuse_at 11 (tangled D t vars)

-- 12. "query node, not the root, not used exactly once", at the lowest node. The nodes that the fields of a record name:
unfoldable pub named : List Sort → List ℕ → List ℕ
named [] ws = []
named (s ∷ ss) [] = []
named (label ∷ ss) (w ∷ ws) = named ss ws
named (entry_no ∷ ss) (w ∷ ws) = named ss ws
named (def_no ∷ ss) (w ∷ ws) = named ss ws
named (var_no ∷ ss) (w ∷ ws) = named ss ws
named (any_word ∷ ss) (w ∷ ws) = named ss ws
named (query_no ∷ ss) (w ∷ ws) = w ∷ named ss ws
named (cond_no ∷ ss) (w ∷ ws) = w ∷ named ss ws

abbrev pub named_by : Option Form → List ℕ → List ℕ
named_by none ws = []
named_by (some f) ws = named f.sorts ws

abbrev pub uses_of : Node → List ℕ
uses_of x = named_by (find x.kind forms) (x.a ∷ x.b ∷ x.c ∷ [])

abbrev pub uses : List Node → List ℕ
uses code = concat_map uses_of code

abbrev pub misused : List Node → ℕ → Bool
misused code q = not (eqb (count q (uses code)) 1)

unfoldable pub check_uses : List Node → Out (Unit {0})
check_uses code = refuse_at 12 (lowest (misused code) (length code - 1))

-- "8 to 12 are tried in that order"
unfoldable pub check_job : ℕ → Tables → Out Tables
check_job n t = do
  _ ← check_root n t.code
  _ ← check_types t.defs t.types
  _ ← check_vars t.defs t.types t.vars
  _ ← check_uses t.code
  ok t

-- READING A JOB: refusals 1 to 12
unfoldable pub read_job : Caps → List ℕ → Out Tables
read_job caps s = do
  t ← read_records job caps s
  check_job (length s) t
