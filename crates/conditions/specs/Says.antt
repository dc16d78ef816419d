-- What a condition of a text gives.
-- Assumes nothing.
use Rattle.std.specs.Prelude.{◌≡◌, List, ℕ, ◌+◌, ◌<◌, min, length, Result}
use Rattle.meaning.specs.Texts.{here, cond_at, cond_no, cond_nodes}
use Rattle.rows.specs.Says.{Reads}
use Rattle.rows.specs.declared.Part.{Part}
use Rattle.refusals.specs.declared.Refusal.{Refusal}

-- A CONDITION from an offset on, with so many open around it: what the definition reads, at any depth that is enough and with any number of nodes that the
-- code counts so
pub record Conditions (s : List ℕ) (at deep : ℕ) (code : List ℕ) (nodes : ℕ) (r : Result Part Refusal) (u : List ℕ) : Type 0 where
  pub is : (k n : ℕ) → length s < k + at → min n 1025 ≡ nodes → Reads cond_no cond_nodes s at n code u (cond_at s k deep (here at n)) r
