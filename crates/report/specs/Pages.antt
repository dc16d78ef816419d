-- A page: lines are gathered on it, and it is written out where it has no room for one more.
-- Assumes nothing.
use Rattle.std.specs.Prelude.{◌≡◌, Option, List, ℕ, ◌++◌}
use Rattle.std.specs.Io.KnownBytes.{Appends}

-- what was written out, and behind it the page, is the text
abbrev pub Printed : Option (List ℕ) → Option (List ℕ) → List ℕ → List ℕ → Type 0
Printed old new page text = (written : List ℕ) × Appends old new written × (written ++ page ≡ text)
