-- What a step of the parser is given and answers.
-- Assumes nothing.
use Rattle.std.specs.Prelude.{◌≡◌, true, false, List, [], ◌∷◌, ◌++◌, ℕ, suc, ◌+◌, ◌≤◌, ◌<◌, min, ltb, length, Result, Ok, Err}
use Rattle.meaning.specs.Base.{Out, ok, refused, ◌>>=◌, require}
use Rattle.meaning.specs.Kinds
use Rattle.meaning.specs.Records.{Node, node}
use Rattle.meaning.specs.Queries.{Cond, Query, text, child, dos}
use Rattle.meaning.specs.Tokens
use Rattle.meaning.specs.Texts.{Here, Read, one, expect, number_in, opened, variable_at, test_at, cond_at, step_at, group_at, query_at, cond_no, query_no, cond_nodes, query_nodes}
use Rattle.words.specs.Tables.{code_of}
use Rattle.queries.specs.declared.Query as Code
use Rattle.refusals.specs.declared.Refusal.{Refusal}
use Rattle.refusals.specs.Says.{number_of}
use Rattle.rows.specs.declared.Part.{Part}
use Rattle.items.specs.declared.Act.{Act}
use Rattle.items.specs.declared.Binder.{Binder}
use Rattle.items.specs.declared.Open.{Open}
use Rattle.items.specs.declared.Axis.{Axis}
use Rattle.items.specs.declared.Task.{Task}
use Rattle.items.specs.Machine.{item_at, Frame, tail, inside, source, guarded, cont, rows_of, depth, pairs, Level, AllDeep, flat, sign_of, Shown, many}

-- FRAMES as they stand at an offset, where there are n nodes
pub record Well (s : List ℕ) (at : ℕ) (fs : List Frame) (n : ℕ) : Type 0 where
  pub deep : AllDeep s at fs
  pub level : Level fs
  pub low : depth fs ≤ 100
  pub few : pairs fs ≤ n
  pub most : pairs fs ≤ 1024

-- where a text is: at an offset, with n nodes, of which up to 1,025 are counted
pub record Stops (s : List ℕ) (at nodes : ℕ) (h : Here) : Type 0 where
  pub place : h.at ≡ at
  pub inside : at ≤ length s
  pub count : min h.nodes 1025 ≡ nodes

-- an item that was made: its node is the last
pub record Made (fs : List Frame) (q : Query) (h : Here) (code : List ℕ) : Type 0 where
  pub few : pairs fs < h.nodes
  pub rows : h.nodes ≤ 1024 → (suc (query_no q) ≡ h.nodes) × (code_of code h.nodes ≡ rows_of fs ++ query_nodes q)

-- AN ITEM IS TO BE READ, k deep, where so many are open
pub record Wants (s : List ℕ) (at deep nodes : ℕ) (code : List ℕ) (under : List Frame) (k : ℕ) (h : Here) : Type 0 where
  pub open_are : deep ≡ depth under
  pub fuel : length s ≤ k + at
  pub stops : Stops s at nodes h
  pub well : Well s at under h.nodes
  pub rows : h.nodes ≤ 1024 → code_of code h.nodes ≡ rows_of under

-- AN ITEM WAS MADE, and a frame that is shown so goes on
pub record Has (s : List ℕ) (at : ℕ) (x : Open) (nodes : ℕ) (code : List ℕ) (under : List Frame) (f : Frame) (q : Query) (h : Here) : Type 0 where
  pub shown : Shown h.nodes f x
  pub stops : Stops s at nodes h
  pub well : Well s at (f ∷ under) h.nodes
  pub made : Made (f ∷ under) q h code

-- WHAT A STEP ANSWERS where there were so many nodes at least: a refusal; an item is made; a frame is open, and behind it an item, or items, are to be read; or the same frame goes on, with one pair
-- more that is not kept
pub data Acts (s : List ℕ) (at least : ℕ) (under : List Frame) (code : List ℕ) (o : Read Query) : Result Act Refusal → Type 0 where
  refuses : {r : Refusal} → o ≡ refused (number_of r.reason) r.place → Acts s at least under code o (Err r)
  makes : {p : Part} (q : Query) (h : Here) → o ≡ ok (q, h) → at ≤ p.next → least ≤ h.nodes → Stops s p.next p.nodes h → Well s p.next under h.nodes → Made under q h code → Acts s at least under code o (Ok (Act.Done p))
  opens : {x : Open} {deep : ℕ} {p : Part} (f : Frame) (k : ℕ) (h : Here) → o ≡ (query_at s (suc k) (many f) deep h >>= λ p. cont s f p) → Shown h.nodes f x → flat f → at < p.next → least ≤ h.nodes → length s ≤ k + p.next
      → Stops s p.next p.nodes h → deep ≡ depth (f ∷ under) → Well s p.next (f ∷ under) h.nodes → (h.nodes ≤ 1024 → code_of code h.nodes ≡ rows_of (f ∷ under)) → Acts s at least under code o (Ok (Act.More x deep p))
  again : {deep next : ℕ} (k : ℕ) (ms : List Query) (h : Here) → o ≡ (item_at s k deep h >>= λ p. cont s (tail k deep ms) p) → at < next → least ≤ h.nodes → length s ≤ k + next → Stops s next 1025 h
      → Well s next (tail k deep ms ∷ under) h.nodes → Acts s at least under code o (Ok (Act.Again deep next))

-- THE NODE of a query
abbrev pub node_of : Code.Query → Node
node_of Code.Query.Nothing = node Kinds.query·empty 0 0 0
node_of (Code.Query.Text t) = node Kinds.query·text t 0 0
node_of (Code.Query.Element l q) = node Kinds.query·element l q 0
node_of (Code.Query.Pair p q) = node Kinds.query·pair p q 0
node_of (Code.Query.Variable v) = node Kinds.query·variable v 0 0
node_of (Code.Query.Child v w) = node Kinds.query·child v w 0
node_of (Code.Query.Dos v w) = node Kinds.query·dos v w 0
node_of (Code.Query.For v p q) = node Kinds.query·for v p q
node_of (Code.Query.Let v p q) = node Kinds.query·let v p q
node_of (Code.Query.When p q) = node Kinds.query·when p q 0

-- ONE NODE MORE
pub record Emitted (nodes : ℕ) (x : Node) (next : ℕ) (code : List ℕ) (r : Act) (u : List ℕ) : Type 0 where
  pub answer : r ≡ Act.Done (record { next = next; nodes = min (suc nodes) 1025 })
  pub row : nodes < 1024 → code_of u (suc nodes) ≡ code_of code nodes ++ (x ∷ [])

-- WHAT IS DONE where an item is to be read, of which o is what is left of the definition; it is so many bytes behind where the step began
pub record Does (gap : ℕ) (s : List ℕ) (at deep nodes : ℕ) (code : List ℕ) (o : ℕ → Here → Read Query) (r : Result Act Refusal) (u : List ℕ) : Type 0 where
  pub is : (from : ℕ) (under : List Frame) (k : ℕ) (h : Here) → from + gap ≤ at → Wants s at deep nodes code under k h → Acts s from h.nodes under u (o k h) r

abbrev pub text_behind : List ℕ → Here → Read Query
text_behind s h = do
  t ← number_in s 0 65535 h
  one s (λ n. text n t.0) t.1

-- a child or a dos
abbrev pub step_kind : Axis → ℕ
step_kind Axis.Child = 37
step_kind Axis.Dos = 38

abbrev pub step_of : Axis → ℕ → ℕ → ℕ → Query
step_of Axis.Child n v t = child n v t
step_of Axis.Dos n v t = dos n v t

abbrev pub test_behind : Axis → List ℕ → ℕ → Here → Read Query
test_behind b s v h = do
  t ← test_at s h
  one s (λ n. step_of b n v t.0) t.1

abbrev pub step_behind : List ℕ → ℕ → Here → Read Query
step_behind s v h = step_at s v h

abbrev pub variable_item : List ℕ → Here → Read Query
variable_item s h = do
  v ← variable_at s h
  step_at s v.0 v.1

-- behind a token at a place that opens
abbrev pub opening : {A : Type 0} → ℕ → ℕ → Out A → Out A
opening deep place o = do
  _ ← require (ltb deep 100) 23 place
  o

abbrev pub group_behind : List ℕ → ℕ → ℕ → ℕ → Here → Read Query
group_behind s place deep k h = opening deep place (group_at s (λ o i. query_at s (suc k) true o i) deep h)

abbrev pub inside_at : List ℕ → ℕ → ℕ → ℕ → Here → Read Query
inside_at s l deep k h = do
  _ ← expect s Tokens.token·inside h
  i ← opened s deep h
  q ← query_at s k true (suc deep) i
  cont s (inside l) q

abbrev pub element_at : List ℕ → ℕ → ℕ → Here → Read Query
element_at s deep k h = do
  l ← number_in s 1 65534 h
  inside_at s l.0 deep k l.1

-- a for or a let
abbrev pub sign_behind : Binder → List ℕ → ℕ → ℕ → ℕ → Here → Read Query
sign_behind b s v deep k h = do
  j ← expect s (sign_of b) h
  p ← query_at s (suc k) false (suc deep) j
  cont s (source b v (suc k) (suc deep)) p

abbrev pub bound_behind : Binder → List ℕ → ℕ → ℕ → ℕ → Here → Read Query
bound_behind b s place deep k h = opening deep place (variable_at s h >>= λ v. sign_behind b s v.0 deep k v.1)

abbrev pub body_behind : List ℕ → ℕ → ℕ → Cond → Here → Read Query
body_behind s deep k c h = do
  l ← expect s Tokens.token·return h
  q ← query_at s (suc k) false (suc deep) l
  cont s (guarded c) q

abbrev pub when_behind : List ℕ → ℕ → ℕ → ℕ → Here → Read Query
when_behind s place deep k h = opening deep place (cond_at s (suc k) (suc deep) h >>= λ p. body_behind s deep k p.0 p.1)

-- behind a condition that was made
pub record Guards (s : List ℕ) (at deep nodes : ℕ) (r : Result Act Refusal) : Type 0 where
  pub is : (from : ℕ) (under : List Frame) (k : ℕ) (c : Cond) (h : Here) (code : List ℕ) → from ≤ at → deep ≡ depth under → length s ≤ k + at → Stops s at nodes h → Well s at under h.nodes
      → (h.nodes ≤ 1024 → (suc (cond_no c) ≡ h.nodes) × (code_of code h.nodes ≡ rows_of under ++ cond_nodes c)) → Acts s from h.nodes under code (body_behind s deep k c h) r

-- WHERE A FRAME GOES ON, and a step of either kind
pub record Goes (s : List ℕ) (at : ℕ) (x : Open) (nodes : ℕ) (code : List ℕ) (r : Result Act Refusal) (u : List ℕ) : Type 0 where
  pub is : (under : List Frame) (f : Frame) (q : Query) (h : Here) → Has s at x nodes code under f q h → Acts s at h.nodes under u (cont s f (q, h)) r

pub record Steps (s : List ℕ) (at : ℕ) (top : Task) (nodes : ℕ) (code : List ℕ) (r : Result Act Refusal) (u : List ℕ) : Type 0 where
  pub wants : (deep : ℕ) (under : List Frame) (k : ℕ) (h : Here) → top ≡ Task.Item deep → Wants s at deep nodes code under k h → Acts s at h.nodes under u (item_at s k deep h) r
  pub goes : (x : Open) (under : List Frame) (f : Frame) (q : Query) (h : Here) → top ≡ Task.Behind x → Has s at x nodes code under f q h → Acts s at h.nodes under u (cont s f (q, h)) r
