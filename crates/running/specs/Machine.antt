-- The evaluator as a loop over a stack: the spots where nodes are evaluated, what stands inside a node that is begun, and what a step leaves.
-- Assumes nothing.
use Rattle.std.specs.Prelude.{◌≡◌, true, List, [], ◌∷◌, ◌++◌, ℕ, zero, suc, ◌+◌, ◌*◌, ◌-◌, ◌≤◌, ◌<◌, length, get_or, take, drop, Option, Some, None, Result, Ok, Err}
use Rattle.meaning.specs.Records.{Node}
use Rattle.meaning.specs.Queries as Queries
use Rattle.meaning.specs.Queries.{Query, Cond, query_at}
use Rattle.meaning.specs.Running.{Env, holds}
use Rattle.words.specs.Tables.{stored}
use Rattle.uses.specs.Counts.{Lowers}
use Rattle.spans.specs.Shows.{nowhere, standing, bound, Shows}
use Rattle.spans.specs.declared.Spans.{Spans}
use Rattle.refusals.specs.declared.Refusal.{Refusal}
use Rattle.truths.specs.Tells.{Places}
use Rattle.running.specs.declared.Frame.{Frame}
use Rattle.running.specs.declared.Next.{Next}
use Rattle.running.specs.declared.Stack.{Stack}
use Rattle.copies.specs.Fills.{Made}
use Rattle.running.specs.Evaluates.{Step, Ready, Evaluates, Rounds, valued}

-- A FRAME: a node's when it is begun
abbrev pub fresh : ℕ → ℕ → Frame
fresh n at = record { node = n; base = at; first = None; next = 0; hides = nowhere }

-- THE FRAMES OF A STACK, the last first
unfoldable pub piled : List Frame → ℕ → List Frame
piled fs zero = []
piled fs (suc i) = get_or fs i (fresh 0 0) ∷ piled fs i

abbrev pub pile : Stack → List Frame
pile s = piled s.frames s.top

-- one that is taken from these leaves those
abbrev pub Taken : Option Frame → List Frame → List Frame → Type 0
Taken None was now = was ≡ []
Taken (Some f) was now = was ≡ f ∷ now

-- A SPOT: a node that is to be evaluated, the entry from which on the work table is lent to it, and the scope, the forests held and the lent words then
pub record Spot : Type 0 where
  pub node : ℕ
  pub at : ℕ
  pub scope : Spans
  pub held : List ℕ
  pub rest : List ℕ

abbrev pub spot : ℕ → ℕ → Spans → List ℕ → List ℕ → Spot
spot n at s held rest = record { node = n; at = at; scope = s; held = held; rest = rest }

abbrev pub Given : List Node → Spot → Type 0
Given code x = Ready code x.scope x.held x.rest x.at x.node

-- what a query leaves at a spot, and with an answer of k entries
pub record Answers (q : Query) (x : Spot) (r : Step) (after us : List ℕ) : Type 0 where
  pub is : Evaluates x.scope x.held after (length x.rest) us x.at r (valued q)
  pub long : length after ≡ length x.held
  pub wide : length us ≡ length x.rest

abbrev pub Gave : Query → Spot → ℕ → List ℕ → List ℕ → Type 0
Gave q x k after us = Answers q x (record { made = Ok k; scope = x.scope }) after us

-- a forest of k entries held from the spot's entry on
abbrev pub holding : Spot → ℕ → List ℕ → List ℕ → List ℕ
holding x k after us = stored after (3 * x.at) (take (3 * k) us)

-- INSIDE A NODE that is begun at spot x stand some words, and then spot y, where a part of it is done.
-- Its first part: there are no words yet
pub record InFirst (C : List Node) (p : Query) (x : Spot) (pre : List ℕ) (y : Spot) : Type 0 where
  pub part : query_at C y.node ≡ p
  pub front : pre ≡ []
  pub is : y ≡ spot y.node x.at x.scope x.held x.rest

-- an element's body: the place of its entry
pub record InElement (C : List Node) (q : Query) (x : Spot) (pre : List ℕ) (y : Spot) : Type 0 where
  pub part : query_at C y.node ≡ q
  pub room : 3 ≤ length x.rest
  pub front : pre ≡ take 3 x.rest
  pub is : y ≡ spot y.node (x.at + 1) x.scope x.held (drop 3 x.rest)

-- the part of a when whose condition holds
pub record InWhen (C : List Node) (c : Cond) (q : Query) (x : Spot) (pre : List ℕ) (y : Spot) : Type 0 where
  pub first : InFirst C q x pre y
  pub holds : (env : Env) → Shows x.held x.scope env → holds c env ≡ true

-- a pair's second part: its first, of k entries
pub record InPair (C : List Node) (p q : Query) (k : ℕ) (x : Spot) (pre : List ℕ) (y : Spot) : Type 0 where
  pub after : List ℕ
  pub us : List ℕ
  pub gave : Gave p x k after us
  pub part : query_at C y.node ≡ q
  pub front : pre ≡ take (3 * k) us
  pub is : y ≡ spot y.node (x.at + k) x.scope after (drop (3 * k) us)

-- the body of a let: its source, of k entries, which is held for its variable
pub record InLet (C : List Node) (v : ℕ) (p q : Query) (k : ℕ) (f : Frame) (x : Spot) (pre : List ℕ) (y : Spot) : Type 0 where
  pub few : v ≤ 63
  pub after : List ℕ
  pub us : List ℕ
  pub gave : Gave p x k after us
  pub hides : f.hides ≡ standing x.scope v
  pub part : query_at C y.node ≡ q
  pub front : pre ≡ take (3 * k) us
  pub is : y ≡ spot y.node (x.at + k) (bound x.scope v (record { from = x.at; to = x.at + k })) (holding x k after us) (drop (3 * k) us)

-- a body of a for: its source, which is held for its variable, and m entries of bodies; the tree from entry j on is done, and the next begins where it ends
pub record InFor (C : List Node) (v : ℕ) (p q : Query) (k : ℕ) (f : Frame) (x : Spot) (pre : List ℕ) (y : Spot) : Type 0 where
  pub few : v ≤ 63
  pub after : List ℕ
  pub us : List ℕ
  pub gave : Gave p x k after us
  pub now_held : List ℕ
  pub vs : List ℕ
  pub j : ℕ
  pub m : ℕ
  pub rounds : Rounds v q x.scope (holding x k after us) (drop (3 * k) us) (x.at + k) x.at (x.at + k) now_held vs x.scope j m
  pub more : j < x.at + k
  pub next : f.next ≡ j + get_or now_held (3 * j + 2) 0 + 1
  pub hides : f.hides ≡ standing x.scope v
  pub part : query_at C y.node ≡ q
  pub front : pre ≡ take (3 * k) us ++ take (3 * m) vs
  pub is : y ≡ spot y.node (x.at + k + m) (bound x.scope v (record { from = j; to = f.next })) now_held (drop (3 * m) vs)

-- by whether the first part is done, of so many entries
abbrev pub Half : Option ℕ → Type 0 → (ℕ → Type 0) → Type 0
Half None A B = A
Half (Some k) A B = B k

abbrev pub Within : List Node → Query → Frame → Spot → List ℕ → Spot → Type 0
Within C (Queries.nothing n) f x pre y = ⊥
Within C (Queries.text n t) f x pre y = ⊥
Within C (Queries.element n l q) f x pre y = InElement C q x pre y
Within C (Queries.pair n p q) f x pre y = Half f.first (InFirst C p x pre y) (λ k. InPair C p q k x pre y)
Within C (Queries.variable n v) f x pre y = ⊥
Within C (Queries.child n v w) f x pre y = ⊥
Within C (Queries.dos n v w) f x pre y = ⊥
Within C (Queries.for n v p q) f x pre y = Half f.first (InFirst C p x pre y) (λ k. InFor C v p q k f x pre y)
Within C (Queries.let_in n v p q) f x pre y = Half f.first (InFirst C p x pre y) (λ k. InLet C v p q k f x pre y)
Within C (Queries.when n c q) f x pre y = InWhen C c q x pre y

pub record Inner (code : List Node) (f : Frame) (x : Spot) (pre : List ℕ) (y : Spot) : Type 0 where
  pub node : f.node ≡ x.node
  pub base : f.base ≡ x.at
  pub low : y.node < x.node
  pub given : Given code y
  pub within : Within code (query_at code x.node) f x pre y

-- HOW MUCH there is to do: for a query, and for one of which a part is being done. A for has at most 8,192 trees.
unfoldable pub weight : Query → ℕ
weight (Queries.nothing n) = 1
weight (Queries.text n t) = 1
weight (Queries.element n l q) = 2 + weight q
weight (Queries.pair n p q) = 3 + weight p + weight q
weight (Queries.variable n v) = 1
weight (Queries.child n v w) = 1
weight (Queries.dos n v w) = 1
weight (Queries.for n v p q) = 3 + weight p + (weight q + 1) * 8192
weight (Queries.let_in n v p q) = 3 + weight p + weight q
weight (Queries.when n c q) = 2 + weight q

abbrev pub half : Option ℕ → ℕ → (ℕ → ℕ) → ℕ
half None a b = a
half (Some k) a b = b k

unfoldable pub still : Query → Frame → ℕ
still (Queries.nothing n) f = 1
still (Queries.text n t) f = 1
still (Queries.element n l q) f = 1
still (Queries.pair n p q) f = half f.first (2 + weight q) (λ k. 1)
still (Queries.variable n v) f = 1
still (Queries.child n v w) f = 1
still (Queries.dos n v w) f = 1
still (Queries.for n v p q) f = half f.first (2 + (weight q + 1) * 8192) (λ k. 1 + (weight q + 1) * (f.base + k - f.next))
still (Queries.let_in n v p q) f = half f.first (2 + weight q) (λ k. 1)
still (Queries.when n c q) f = 1

-- STEPS: where the evaluation stands then, or a refusal; and the scope
pub record Turn : Type 0 where
  pub next : Result Next Refusal
  pub scope : Spans

abbrev pub turn : Result Next Refusal → Spans → Turn
turn next s = record { next = next; scope = s }

-- down at a node, and up with what a node that begins at an entry made
abbrev pub sunk : ℕ → ℕ → Spans → Turn
sunk node at s = turn (Ok (Next.Down node at)) s

abbrev pub up_with : Made → ℕ → Result Next Refusal
up_with (Ok k) at = Ok (Next.Up k at)
up_with (Err e) at = Err e

abbrev pub risen : Step → ℕ → Turn
risen s at = turn (up_with s.made at) s.scope

-- A STEP at spot x: the node is done, or it is begun and a part of it comes, with less to do than before
pub data Steps (code : List Node) (most : ℕ) (x : Spot) (after us : List ℕ) (st st' : List Frame) (r : Turn) : Type 0 where
  done : (s : Step) → Answers (query_at code x.node) x s after us → st' ≡ st → r ≡ risen s x.at → Steps code most x after us st st' r
  begun : (f : Frame) (pre : List ℕ) (y : Spot) → Inner code f x pre y → still (query_at code x.node) f + weight (query_at code y.node) < most
      → after ≡ y.held → us ≡ pre ++ y.rest → st' ≡ f ∷ st → r ≡ sunk y.node y.at y.scope
      → Steps code most x after us st st' r

-- what a when is given to judge its condition, node p
pub record Guards (code : List Node) (s : Spans) (held : List ℕ) (at n p : ℕ) : Type 0 where
  pub lowers : Lowers code
  pub low : n < length code
  pub lower : p < n
  pub places : Places s held
  pub few : at ≤ 8192

-- A STEP UP begins with frame f, spot y inside it, and k entries that y's node made
pub record Returns (code : List Node) (f : Frame) (x : Spot) (pre : List ℕ) (y : Spot) (at k : ℕ) (s : Spans) (held rest : List ℕ) : Type 0 where
  pub vs : List ℕ
  pub given : Given code x
  pub inner : Inner code f x pre y
  pub answers : Answers (query_at code y.node) y (record { made = Ok k; scope = s }) held vs
  pub part : rest ≡ pre ++ vs
  pub from : at ≡ y.at

pub record Back (code : List Node) (f : Frame) (at k : ℕ) (s : Spans) (held rest : List ℕ) : Type 0 where
  pub outer : Spot
  pub pre : List ℕ
  pub inner : Spot
  pub returns : Returns code f outer pre inner at k s held rest

-- of a node with two parts, the second being at node q
pub record Waits (whole : ℕ → Query → Query → Query) (q : ℕ) (f : Frame) (at k : ℕ) (s : Spans) (held rest : List ℕ) : Type 0 where
  pub code : List Node
  pub back : Back code f at k s held rest
  pub first : Query
  pub is : query_at code back.outer.node ≡ whole back.outer.node first (query_at code q)
  pub low : q < back.outer.node

-- A ROUND of a for begins with its source held and m entries of bodies behind it
pub record Looping (v q : ℕ) (f : Frame) (m : ℕ) (s : Spans) (held rest : List ℕ) : Type 0 where
  pub code : List Node
  pub outer : Spot
  pub given : Given code outer
  pub node : f.node ≡ outer.node
  pub base : f.base ≡ outer.at
  pub first : Query
  pub is : query_at code outer.node ≡ Queries.for outer.node v first (query_at code q)
  pub low : q < outer.node
  pub k : ℕ
  pub kept : f.first ≡ Some k
  pub after : List ℕ
  pub us : List ℕ
  pub gave : Gave first outer k after us
  pub vs : List ℕ
  pub rounds : Rounds v (query_at code q) outer.scope (holding outer k after us) (drop (3 * k) us) (outer.at + k) outer.at (outer.at + k) held vs s f.next m
  pub part : rest ≡ take (3 * k) us ++ vs
