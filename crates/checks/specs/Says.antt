-- What the checks answer; what they are given, and the tables of the job that it is.
-- Assumes nothing.
use Rattle.std.specs.Prelude.{◌≡◌, Result, List, ℕ, ◌≤◌, length}
use Rattle.meaning.specs.Base.{Out, ◌>>=◌}
use Rattle.meaning.specs.Types.{Table, Defs}
use Rattle.meaning.specs.Records.{Var, Node, Tables}
use Rattle.meaning.specs.Formed.{TypesRead, DefsRead, VarsRead, CodeRead}
use Rattle.meaning.specs.Checks.{check_vars, check_uses}
use Rattle.refusals.specs.declared.Refusal.{Refusal}
use Rattle.refusals.specs.Says.{out}

-- what the checks of these tables answer: the tables, which pass whole, or a refusal
abbrev pub passed : Tables → Result (Unit {0}) Refusal → Out Tables
passed t r = out (λ _. t) r

-- the last two of the checks, 11 and 12
unfoldable pub from_vars : Defs → Table → List (ℕ × Var) → List Node → Out (Unit {0})
from_vars D T vars code = do
  _ ← check_vars D T vars
  check_uses code

-- tables as reading leaves them
pub record Ready (types : Table) (defs : Defs) (vars : List (ℕ × Var)) (code : List Node) : Type 0 where
  pub room : ℕ
  pub small : room ≤ 4096
  pub types_read : TypesRead room types
  pub defs_read : DefsRead (length types) defs
  pub vars_read : VarsRead (length types) vars
  pub code_read : CodeRead 1024 code

-- those of a job that was read
pub record Stored (types : Table) (defs : Defs) (vars : List (ℕ × Var)) (code : List Node) (t : Tables) : Type 0 where
  pub types_are : types ≡ t.types
  pub defs_are : defs ≡ t.defs
  pub vars_are : vars ≡ t.vars
  pub code_are : code ≡ t.code
