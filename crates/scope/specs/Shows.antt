-- A scope of the code: what binding does to it, and when it shows a scope of `meaning`.
-- Assumes nothing.
use Rattle.std.specs.Prelude.{◌≡◌, ℕ, ◌<◌, get_or, set, Option, Some, None}
use Rattle.std.proofs.Math.Option as Math
use Rattle.meaning.specs.Base.{find}
use Rattle.meaning.specs.Records as Records
use Rattle.meaning.specs.Typing as Typing
use Rattle.scope.specs.declared.Scope.{Scope}
use Rattle.scope.specs.declared.Var.{Var}

-- a variable
abbrev pub var_of : Var → Records.Var
var_of (Var.Tree e) = Records.tree e
var_of (Var.Forest e) = Records.forest e

-- what was looked up
abbrev pub found : Option Var → Math.Option Records.Var
found (Some x) = Math.some (var_of x)
found None = Math.none

-- the scope with something else for a variable
abbrev pub bound : Scope → ℕ → Option Var → Scope
bound s v x = record { slots = set s.slots v x }

-- each variable is found as `find` finds it
abbrev pub Shows : Scope → Typing.Scope → Type 0
Shows s g = (v : ℕ) → v < 64 → found (get_or s.slots v None) ≡ find v g
