-- What a query that copies is given and leaves.
-- Assumes nothing.
use Rattle.std.specs.Prelude.{List, ℕ, ◌≤◌}
use Rattle.meaning.specs.Forests.{Forest}
use Rattle.meaning.specs.Running.{Env}
use Rattle.spans.specs.Shows.{start, stop, Shows}
use Rattle.spans.specs.declared.Spans.{Spans}
use Rattle.copies.specs.Fills.{Made, Copied, Stretch}

-- a variable's stretch holds a forest
pub record Within (s : Spans) (held : List ℕ) (v : ℕ) : Type 0 where
  pub low : v ≤ 63
  pub is : Stretch held (start s v) (stop s v)

-- in every environment that the scope shows a copy of a forest, or node n that found no room for it
pub record Picks (s : Spans) (held : List ℕ) (room : ℕ) (us : List ℕ) (n : ℕ) (made : Made) (chosen : Env → Forest) : Type 0 where
  pub is : (env : Env) → Shows held s env → Copied room us n made (chosen env)
