-- What one node more is, and what a part of a text gives.
-- Assumes nothing.
use Rattle.std.specs.Prelude.{◌≡◌, List, [], ◌∷◌, ◌++◌, ℕ, suc, ◌≤◌, ◌<◌, min, length, Result, Ok, Err}
use Rattle.meaning.specs.Base.{ok, refused}
use Rattle.meaning.specs.Records.{Node}
use Rattle.meaning.specs.Texts.{Here, Read}
use Rattle.words.specs.Tables.{code_of}
use Rattle.refusals.specs.declared.Refusal.{Refusal}
use Rattle.refusals.specs.Says.{number_of}
use Rattle.rows.specs.declared.Part.{Part}

-- ONE NODE MORE, where there are so many: how many there are then, up to 1,025, and the nodes that the words hold
pub record Emits (nodes : ℕ) (x : Node) (code : List ℕ) (r : ℕ) (u : List ℕ) : Type 0 where
  pub count : r ≡ min (suc nodes) 1025
  pub row : nodes < 1024 → code_of u (suc nodes) ≡ code_of code nodes ++ (x ∷ [])

-- A PART that is read where there are `from` nodes: o is what the definition reads; `no` is a part's node and `rows` are its nodes
pub data Reads {A : Type 0} (no : A → ℕ) (rows : A → List Node) (s : List ℕ) (at from : ℕ) (code u : List ℕ) (o : Read A) : Result Part Refusal → Type 0 where
  refuses : {r : Refusal} → o ≡ refused (number_of r.reason) r.place → Reads no rows s at from code u o (Err r)
  makes : {p : Part} (x : A) (h : Here) → o ≡ ok (x, h) → h.at ≡ p.next → min h.nodes 1025 ≡ p.nodes → at < p.next → p.next ≤ length s → from < h.nodes
      → (h.nodes ≤ 1024 → (suc (no x) ≡ h.nodes) × (code_of u h.nodes ≡ code_of code from ++ rows x)) → Reads no rows s at from code u o (Ok p)
