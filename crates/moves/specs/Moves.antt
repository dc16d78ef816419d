-- What queries add to the evaluations of their parts.
-- Assumes nothing.
use Rattle.std.specs.Prelude.{List, ℕ, ◌+◌, ◌*◌, ◌-◌, ◌≤◌, length, drop}
use Rattle.meaning.specs.Base.{forest_width}
use Rattle.meaning.specs.Forests.{Forest, end, tree}
use Rattle.copies.specs.Fills.{Filled}

-- m entries have room behind k others in so many words, which are no more than a work table has
pub record Room (words k m : ℕ) : Type 0 where
  pub few : words ≤ forest_width * 8192
  pub fits : forest_width * (k + m) ≤ words

-- AN ELEMENT'S ENTRY: behind the first entry stands its body of k entries, and with the entry it is the element
pub record Wraps (ws us : List ℕ) (l k : ℕ) : Type 0 where
  pub is : (f : Forest) → Filled (length ws - forest_width) (drop forest_width ws) k f → Filled (length ws) us (1 + k) (tree l f end)

-- BODIES MOVED DOWN, m entries over a source of k
pub record Moves (ws us : List ℕ) (k m : ℕ) : Type 0 where
  pub is : (g : Forest) → Filled (length ws - forest_width * k) (drop (forest_width * k) ws) m g → Filled (length ws) us m g
