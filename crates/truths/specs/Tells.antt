-- What a condition is given, and when it is told rightly.
-- Assumes nothing.
use Rattle.std.specs.Prelude.{◌≡◌, Bool, List, ℕ, ◌*◌, ◌≤◌, ◌<◌, length}
use Rattle.meaning.specs.Base.{forest_width}
use Rattle.meaning.specs.Queries.{Cond}
use Rattle.meaning.specs.Running.{Env, holds}
use Rattle.spans.specs.declared.Spans.{Spans}
use Rattle.spans.specs.Shows.{start, stop, Shows}

-- each variable's stretch lies inside the table
pub record Places (s : Spans) (held : List ℕ) : Type 0 where
  pub is : (v : ℕ) → v < 64 → (start s v ≤ stop s v) × (forest_width * stop s v ≤ length held)

-- a condition is told as it holds in every environment that this scope shows
pub record Tells (s : Spans) (held : List ℕ) (told : Bool) (c : Cond) : Type 0 where
  pub is : (env : Env) → Shows held s env → told ≡ holds c env
