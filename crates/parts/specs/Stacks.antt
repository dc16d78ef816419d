-- A lent stack of parts, from a place on, the top first: what they are over the nodes of a query table.
-- Assumes nothing.
use Rattle.std.specs.Prelude.{◌≡◌, ℕ, ◌≤◌, ◌<◌, List, ◌++◌, map, drop}
use Rattle.meaning.specs.Records.{Node}
use Rattle.meaning.specs.Queries.{cond_at, query_at}
use Rattle.parts.specs.declared.Part.{Part}
use Rattle.parts.specs.Items.{Item, piece, query, cond}

-- what a part is
abbrev pub item_of : List Node → Part → Item
item_of C (Part.Piece k v) = piece k v
item_of C (Part.Query m d q) = query m d (query_at C q)
item_of C (Part.Cond d p) = cond d (cond_at C p)

-- what stands on a stack whose top is at a place
abbrev pub items_of : List Node → List Part → ℕ → List Item
items_of C stack top = map (item_of C) (drop top stack)

-- these parts more
pub record Pushed (before : List Part) (top : ℕ) (after : List Part) (next : ℕ) (parts : List Part) : Type 0 where
  pub order : next ≤ top
  pub is : drop next after ≡ parts ++ drop top before

pub record Grown (C : List Node) (before : List Part) (top : ℕ) (after : List Part) (next : ℕ) (items : List Item) : Type 0 where
  pub order : next ≤ top
  pub is : items_of C after next ≡ items ++ items_of C before top

-- a part's node is one of so many; a piece has none
abbrev pub Inside : ℕ → Part → Type 0
Inside nodes (Part.Piece k v) = Unit {0}
Inside nodes (Part.Query m d q) = q < nodes
Inside nodes (Part.Cond d p) = p < nodes
