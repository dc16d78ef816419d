-- The loop that reads the items of a text: its stack of tasks, where it is, and what it answers.
-- Assumes nothing.
use Rattle.std.specs.Prelude.{◌≡◌, Bool, true, false, List, [], ◌∷◌, ℕ, suc, ◌+◌, ◌-◌, ◌≤◌, leb, length, get_or, Result, Ok, Err}
use Rattle.std.proofs.Math.ListN.{set}
use Rattle.meaning.specs.Base.{Out, ok, refused, ◌>>=◌, require, lent}
use Rattle.meaning.specs.Queries.{Query}
use Rattle.meaning.specs.Tokens
use Rattle.meaning.specs.Texts.{Here, here, Read, expect, query_at, query_nodes, section, fitted}
use Rattle.words.specs.Tables.{code_of}
use Rattle.rows.specs.declared.Part.{Part}
use Rattle.items.specs.Machine.{Frame, item_at, plug, Shown}
use Rattle.items.specs.Says.{Well, Stops, Made, Wants}
use Rattle.items.specs.declared.Open.{Open}
use Rattle.items.specs.declared.Task.{Task}
use Rattle.refusals.specs.declared.Refusal.{Refusal}
use Rattle.refusals.specs.Says.{number_of, out}
use Rattle.sections.specs.Says.{long}

-- what the code keeps of a frame, as a task of its stack
abbrev pub Tasked : ℕ → Frame → Task → Type 0
Tasked n f (Task.Item deep) = ⊥
Tasked n f (Task.Behind x) = Shown n f x

abbrev pub task_at : List Task → ℕ → Task
task_at st i = get_or st i (Task.Item 0)

-- THE FRAMES that a stack shows, where there are n nodes
unfoldable pub Stacked : ℕ → List Task → List Frame → Type 0
Stacked n st [] = Unit {0}
Stacked n st (f ∷ fs) = Tasked n f (task_at st (length fs)) × Stacked n st fs

-- the items of a whole text
abbrev pub items_of : List ℕ → Read Query
items_of s = query_at s (suc (length s)) true 0 (here 0 0)

-- WHERE THE LOOP IS: an item is to be read above the frames, or was made; what is to be read is the whole
pub data Going (s : List ℕ) (o : Read Query) (at nodes tasks : ℕ) (code : List ℕ) (st : List Task) : Type 0 where
  wanting : (fs : List Frame) (k deep : ℕ) (h : Here) → tasks ≡ suc (length fs) → task_at st (length fs) ≡ Task.Item deep → Stacked h.nodes st fs → Wants s at deep nodes code fs k h → o ≡ plug s fs (item_at s k deep h) → Going s o at nodes tasks code st
  having : (fs : List Frame) (q : Query) (h : Here) → tasks ≡ length fs → Stacked h.nodes st fs → Stops s at nodes h → Well s at fs h.nodes → Made fs q h code → o ≡ plug s fs (ok (q, h)) → Going s o at nodes tasks code st

-- behind which of what is open there are items that commas may follow
abbrev pub list : Open → Bool
list (Open.Tail deep) = true
list (Open.Second m) = true
list Open.Group = true
list (Open.Inside l) = true
list (Open.Source b v deep) = false
list (Open.Body b v p) = false
list (Open.Guarded c) = false

-- what is open in the place of the last task, and what is to be read above it
abbrev pub above : Bool → List Task → ℕ → ℕ → List Task
above true st tasks deep = set (set st tasks (Task.Behind (Open.Tail deep))) (tasks + 1) (Task.Item deep)
above false st tasks deep = set st tasks (Task.Item deep)

abbrev pub more : Bool → ℕ
more true = 2
more false = 1

pub record Opened (tasks : ℕ) (x : Open) (deep : ℕ) (st : List Task) (r : ℕ) (u : List Task) : Type 0 where
  pub count : r ≡ tasks + more (list x)
  pub tasks_are : u ≡ above (list x) (set st (tasks - 1) (Task.Behind x)) tasks deep

-- WHAT IT ANSWERS: a refusal, or a query whose nodes are in the table if they are few enough
pub data Items (s : List ℕ) (code : List ℕ) (o : Read Query) : Result Part Refusal → Type 0 where
  refuses : {r : Refusal} → o ≡ refused (number_of r.reason) r.place → Items s code o (Err r)
  makes : {p : Part} (q : Query) (h : Here) → o ≡ ok (q, h) → Stops s p.next p.nodes h → (h.nodes ≤ 1024 → code_of code h.nodes ≡ query_nodes q) → Items s code o (Ok p)

-- THE END, behind the items that were read
abbrev pub ending : List ℕ → Query × Here → Out Query
ending s q = do
  _ ← expect s Tokens.token·end q.1
  _ ← require (leb q.1.nodes 1024) 5 0
  ok q.0

-- its answer: a refusal, or as many nodes as there are
pub data Ended (o : Out Query) (q : Query) (nodes : ℕ) : Result ℕ Refusal → Type 0 where
  refuses : {r : Refusal} → o ≡ refused (number_of r.reason) r.place → Ended o q nodes (Err r)
  ends : o ≡ ok q → nodes ≤ 1024 → Ended o q nodes (Ok nodes)

pub record Finishes (s : List ℕ) (at nodes : ℕ) (r : Result ℕ Refusal) : Type 0 where
  pub is : (q : Query) (h : Here) → Stops s at nodes h → Ended (ending s (q, h)) q nodes r

-- A QUERY THAT WAS PARSED: its nodes are in the table
pub data Parses (o : Out Query) (code : List ℕ) : Result ℕ Refusal → Type 0 where
  refuses : {r : Refusal} → o ≡ refused (number_of r.reason) r.place → Parses o code (Err r)
  parses : {nodes : ℕ} (q : Query) → o ≡ ok q → nodes ≤ 1024 → code_of code nodes ≡ query_nodes q → Parses o code (Ok nodes)

-- WHAT PARSING LEAVES: its answer, how many bytes the section has or the refusal, and the lent buffer of so many bytes
pub record Left (room : ℕ) (r : Result ℕ Refusal) (buffer : List ℕ) (o : Out (List ℕ)) : Type 0 where
  pub answer : out (λ (n : ℕ). n) r ≡ long o
  pub bytes : buffer ≡ lent room (λ (bytes : List ℕ). bytes) o

-- what is written of a query that was parsed
pub record Settles (parsed : Result ℕ Refusal) (code : List ℕ) (room : ℕ) (r : Result ℕ Refusal) (buffer : List ℕ) : Type 0 where
  pub is : (o : Out Query) → Parses o code parsed → Left room r buffer (o >>= λ q. fitted room (section q))
