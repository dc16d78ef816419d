-- Tables that count the uses of nodes: what is asked of one, and what it holds when nodes have been counted.
-- Assumes nothing.
use Rattle.std.specs.Prelude.{◌≡◌, List, [], ◌∷◌, ℕ, ◌+◌, ◌≤◌, ◌<◌, length, get_or}
use Rattle.meaning.specs.Base.{At, In, count}
use Rattle.meaning.specs.Records.{Node}
use Rattle.meaning.specs.Formed.{NodeLow}
use Rattle.uses.specs.declared.Uses.{Uses}

-- the nodes that a node names
abbrev pub uses_in : Uses → List ℕ
uses_in Uses.None = []
uses_in (Uses.One q) = q ∷ []
uses_in (Uses.Two p q) = p ∷ q ∷ []

-- these nodes have places in the table, and their counts fit a word
pub record Room (counts qs : List ℕ) : Type 0 where
  pub inside : (q : ℕ) → In q qs → q < length counts
  pub fits : (q : ℕ) → get_or counts q 0 + length qs < 65536

-- each number's count has grown by how often it stands among these
pub record Counted (before qs after : List ℕ) : Type 0 where
  pub is : (q : ℕ) → get_or after q 0 ≡ get_or before q 0 + count q qs

-- nodes each of which names lower ones, as many as a query may have
pub record Lowers (C : List Node) : Type 0 where
  pub few : length C ≤ 1024
  pub low : (n : ℕ) (x : Node) → At C n x → NodeLow C n x
