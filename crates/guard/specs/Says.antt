-- What the check of types and definitions answers; and what it is given.
-- Assumes nothing.
use Rattle.std.specs.Prelude.{Result, ℕ, length}
use Rattle.meaning.specs.Base.{Out}
use Rattle.meaning.specs.Types.{Table, Defs}
use Rattle.meaning.specs.Formed.{TypesRead, DefsRead}
use Rattle.refusals.specs.declared.Refusal.{Refusal}
use Rattle.refusals.specs.Says.{out}

-- what the check answers
abbrev pub outcome : Result (Unit {0}) Refusal → Out (Unit {0})
outcome r = out (λ x. x) r

-- types and definitions, as reading leaves them
pub record Given (types : Table) (defs : Defs) : Type 0 where
  pub room : ℕ
  pub types_read : TypesRead room types
  pub defs_read : DefsRead (length types) defs
