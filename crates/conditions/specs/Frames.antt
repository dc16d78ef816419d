-- The acts that read a condition: what waits for a condition that is being read, and what one act does.
-- Assumes nothing.
use Rattle.std.specs.Prelude.{◌≡◌, List, [], ◌∷◌, ◌++◌, ℕ, suc, ◌+◌, ◌≤◌, ◌<◌, min, length, get_or, Result, Ok, Err}
use Rattle.meaning.specs.Base.{ok, refused, ◌>>=◌}
use Rattle.meaning.specs.Kinds
use Rattle.meaning.specs.Records.{Node, node}
use Rattle.meaning.specs.Queries.{Cond, equal, empty, or, not}
use Rattle.meaning.specs.Tokens
use Rattle.meaning.specs.Texts.{Here, here, Read, one, expect, variable_at, cond_at, cond_no, cond_nodes}
use Rattle.words.specs.Tables.{code_of}
use Rattle.conds.specs.declared.Cond as Code
use Rattle.rows.specs.Says.{Reads}
use Rattle.refusals.specs.declared.Refusal.{Refusal}
use Rattle.refusals.specs.declared.Reason.{Reason}
use Rattle.refusals.specs.Says.{number_of}
use Rattle.rows.specs.declared.Part.{Part}
use Rattle.conditions.specs.declared.Act.{Act}
use Rattle.conditions.specs.declared.Waiting.{Waiting}

-- THE REST of a condition behind its first token, or behind a part of it
module _ (s : List ℕ) where
  unfoldable pub equal_with : ℕ → Here → Read Cond
  equal_with v h = variable_at s h >>= λ w. one s (λ n. equal n v w.0) w.1

  unfoldable pub equal_to : ℕ → Here → Read Cond
  equal_to v h = expect s Tokens.token·equals h >>= λ i. equal_with v i

  unfoldable pub equal_at : Here → Read Cond
  equal_at h = variable_at s h >>= λ v. equal_to v.0 v.1

  unfoldable pub empty_at : Here → Read Cond
  empty_at h = variable_at s h >>= λ v. one s (λ n. empty n v.0) v.1

  unfoldable pub close_at : Cond → Cond × Here → Read Cond
  close_at p q = expect s Tokens.token·closes q.1 >>= λ l. one s (λ n. or n p q.0) l

-- WHAT WAITS for a condition that is being read: `not`; `(` for its first part, where its second is read k more deep; `(` for its second part
pub data Frame : Type 0 where
  denies : Frame
  before : ℕ → Frame
  behind : Cond → Frame

-- what it does with the condition, which has so many open around it
unfoldable pub cont : List ℕ → ℕ → Frame → Cond × Here → Read Cond
cont s deep denies p = one s (λ n. not n p.0) p.1
cont s deep (before k) p = expect s Tokens.token·or p.1 >>= λ j. cond_at s (suc k) deep j >>= λ q. close_at s p.0 q
cont s deep (behind p) q = close_at s p q

-- all that wait, the last first
unfoldable pub plug : List ℕ → ℕ → List Frame → Read Cond → Read Cond
plug s deep [] x = x
plug s deep (f ∷ fs) x = plug s deep fs (x >>= cont s (suc (deep + length fs)) f)

-- the nodes that stand below those of the condition
unfoldable pub under : List Node → Frame → List Node
under base denies = base
under base (before k) = base
under base (behind p) = base ++ cond_nodes p

unfoldable pub below : List Node → List Frame → List Node
below base [] = base
below base (f ∷ fs) = under (below base fs) f

-- the code's word for it, from an offset on and with so many nodes: the first part's node is known up to 1,024 nodes
unfoldable pub Waits : List ℕ → ℕ → ℕ → Waiting → Frame → Type 0
Waits s at m w denies = w ≡ Waiting.Not
Waits s at m w (before k) = (w ≡ Waiting.First) × (length s ≤ k + at)
Waits s at m w (behind p) = (left : ℕ) × (w ≡ Waiting.Second left) × (m ≤ 1024 → left ≡ cond_no p)

unfoldable pub Stacked : List ℕ → ℕ → ℕ → List Waiting → List Frame → Type 0
Stacked s at m stack [] = Unit {0}
Stacked s at m stack (f ∷ fs) = Waits s at m (get_or stack (length fs) Waiting.Not) f × Stacked s at m stack fs

-- a condition whose node is the last of m, with the nodes of all of it: known up to 1,024 nodes
abbrev pub Known : List ℕ → ℕ → Cond → List Node → Type 0
Known u m c base = m ≤ 1024 → (suc (cond_no c) ≡ m) × (code_of u m ≡ base ++ cond_nodes c)

-- AN ACT for what is to be read, o, where there are `from` nodes, those of `base`: a refusal; a condition; or one that is to be read first, with so many open
-- around it, and what waits for it
pub data Acted (s : List ℕ) (deep from : ℕ) (base : List Node) (u : List ℕ) (o : Read Cond) : Result Act Refusal → Type 0 where
  refuses : {r : Refusal} → o ≡ refused (number_of r.reason) r.place → Acted s deep from base u o (Err r)
  done : {p : Part} (c : Cond) (m : ℕ) → o ≡ ok (c, here p.next m) → min m 1025 ≡ p.nodes → from < m → Known u m c base → Acted s deep from base u o (Ok (Act.Done p))
  more : {w : Waiting} {p : Part} (f : Frame) (k : ℕ) → o ≡ (cond_at s (suc k) deep (here p.next from) >>= cont s deep f) → min from 1025 ≡ p.nodes → length s ≤ k + p.next
      → Waits s p.next from w f → (from ≤ 1024 → code_of u from ≡ under base f) → Acted s deep from base u o (Ok (Act.More w p))

-- a condition that is read at once
abbrev pub as_act : Result Part Refusal → Result Act Refusal
as_act (Ok p) = Ok (Act.Done p)
as_act (Err r) = Err r

-- where the text goes on, from an offset on
abbrev pub Moves : List ℕ → ℕ → Result Act Refusal → Type 0
Moves s low (Ok (Act.Done p)) = (low ≤ p.next) × (p.next ≤ length s) × (0 < p.nodes) × (p.nodes ≤ 1025)
Moves s low (Ok (Act.More w p)) = (low ≤ p.next) × (p.next ≤ length s) × (p.nodes ≤ 1025)
Moves s low (Err r) = Unit {0}

-- room for what is open: at most 100, and one more where another is to be read
abbrev pub Room : ℕ → Result Act Refusal → Type 0
Room deep (Ok (Act.Done p)) = deep ≤ 100
Room deep (Ok (Act.More w p)) = deep < 100
Room deep (Err r) = Unit {0}

-- THE NODE of a condition
abbrev pub node_of : Code.Cond → Node
node_of Code.Cond.True = node Kinds.condition·true 0 0 0
node_of Code.Cond.False = node Kinds.condition·false 0 0 0
node_of (Code.Cond.Equal v w) = node Kinds.condition·equal v w 0
node_of (Code.Cond.Empty v) = node Kinds.condition·empty v 0 0
node_of (Code.Cond.Or p q) = node Kinds.condition·or p q 0
node_of (Code.Cond.Not p) = node Kinds.condition·not p 0 0

-- CONTRACTS. A condition of one node
pub record Builds (at nodes : ℕ) (x : Node) (code : List ℕ) (r : Part) (u : List ℕ) : Type 0 where
  pub next : r.next ≡ at
  pub count : r.nodes ≡ min (suc nodes) 1025
  pub row : nodes < 1024 → code_of u (suc nodes) ≡ code_of code nodes ++ (x ∷ [])

-- one that has no condition inside, o, from an offset on
pub record Leaf (s : List ℕ) (low at : ℕ) (code : List ℕ) (nodes : ℕ) (o : Here → Read Cond) (r : Result Act Refusal) (u : List ℕ) : Type 0 where
  pub moves : Moves s low r
  pub room : (deep : ℕ) → deep ≤ 100 → Room deep r
  pub is : (deep n : ℕ) (base : List Node) → min n 1025 ≡ nodes → (n ≤ 1024 → code_of code n ≡ base) → Acted s deep n base u (o (here at n)) r

-- one that is opened
pub data Opens (deep place next : ℕ) (w : Waiting) (nodes : ℕ) : Result Act Refusal → Type 0 where
  full : 100 ≤ deep → Opens deep place next w nodes (Err (record { reason = Reason.TooDeep; place = place }))
  room : deep < 100 → Opens deep place next w nodes (Ok (Act.More w (record { next = next; nodes = nodes })))

-- any
pub record Begins (s : List ℕ) (at deep : ℕ) (code : List ℕ) (nodes : ℕ) (r : Result Act Refusal) (u : List ℕ) : Type 0 where
  pub moves : Moves s (suc at) r
  pub room : deep ≤ 100 → Room deep r
  pub is : (k n : ℕ) (base : List Node) → length s ≤ k + at → min n 1025 ≡ nodes → (n ≤ 1024 → code_of code n ≡ base) → Acted s (suc deep) n base u (cond_at s (suc k) deep (here at n)) r

-- behind a part of it, which f has waited for
pub record Follows (s : List ℕ) (at : ℕ) (f : Frame) (code : List ℕ) (nodes : ℕ) (r : Result Act Refusal) (u : List ℕ) : Type 0 where
  pub is : (deep m : ℕ) (c : Cond) (base : List Node) → min m 1025 ≡ nodes → Known code m c (under base f) → Acted s deep m base u (cont s deep f (c, here at m)) r

pub record Turns (s : List ℕ) (at nodes : ℕ) (r : Result Act Refusal) : Type 0 where
  pub moves : Moves s at r
  pub is : (k : ℕ) (code : List ℕ) → length s ≤ k + at → Follows s at (before k) code nodes r code

pub record Closes (s : List ℕ) (at left : ℕ) (code : List ℕ) (nodes : ℕ) (r : Result Act Refusal) (u : List ℕ) : Type 0 where
  pub moves : Moves s at r
  pub is : (deep m : ℕ) (p c : Cond) (base : List Node) → (m ≤ 1024 → left ≡ cond_no p) → min m 1025 ≡ nodes
      → Known code m c (under base (behind p)) → Acted s deep m base u (cont s deep (behind p) (c, here at m)) r

pub record Resumes (s : List ℕ) (at : ℕ) (w : Waiting) (code : List ℕ) (nodes : ℕ) (r : Result Act Refusal) (u : List ℕ) : Type 0 where
  pub moves : Moves s at r
  pub is : (deep m : ℕ) (f : Frame) (c : Cond) (base : List Node) → Waits s at m w f → min m 1025 ≡ nodes
      → Known code m c (under base f) → Acted s deep m base u (cont s deep f (c, here at m)) r

-- acts until all that was opened is closed, from the one that has been done
pub record Runs (s : List ℕ) (deep : ℕ) (code : List ℕ) (act : Result Act Refusal) (r : Result Part Refusal) (u : List ℕ) : Type 0 where
  pub is : (at n from : ℕ) (start : List ℕ) (o : Read Cond) → Moves s (suc at) act → n ≤ from → Acted s (suc deep) from (code_of start n) code o act → Reads cond_no cond_nodes s at n start u o r
