-- What the evaluator is given and what it leaves.
-- Assumes nothing.
use Rattle.std.specs.Prelude.{◌≡◌, List, ◌∷◌, ℕ, ◌+◌, ◌*◌, ◌/◌, ◌≤◌, ◌<◌, length, take, Ok, Err}
use Rattle.meaning.specs.Base.{Out, ok, refused, ◌>>=◌, zeros, forest_width}
use Rattle.meaning.specs.Forests.{Forest, join, forest_words}
use Rattle.meaning.specs.Records.{Node}
use Rattle.meaning.specs.Queries.{Query}
use Rattle.meaning.specs.Running.{Env, for_each, eval}
use Rattle.uses.specs.Counts.{Lowers}
use Rattle.spans.specs.Shows.{part, Shows, Inside}
use Rattle.spans.specs.declared.Spans.{Spans}
use Rattle.copies.specs.Fills.{Made, no_room, Filled}

-- WHAT IT IS GIVEN: a part of the work table from entry `at` on, of whole entries and all zeros; room to hold as much; and a scope whose stretches lie
-- among the first `at` entries held and show an environment
pub record Begins (s : Spans) (held rest : List ℕ) (at : ℕ) : Type 0 where
  pub blank : rest ≡ zeros (length rest)
  pub whole : length rest ≡ forest_width * (length rest / forest_width)
  pub few : at + length rest / forest_width ≤ 8192
  pub room : forest_width * (at + length rest / forest_width) ≤ length held
  pub inside : Inside s at
  pub env : Env
  pub shows : Shows held s env

-- and node n of the query table
pub record Ready (C : List Node) (s : Spans) (held rest : List ℕ) (at n : ℕ) : Type 0 where
  pub lowers : Lowers C
  pub low : n < length C
  pub begins : Begins s held rest at

-- a forest that is held among the first n entries
pub record Among (held : List ℕ) (a e n : ℕ) : Type 0 where
  pub ordered : a ≤ e
  pub below : e ≤ n
  pub forest : Forest
  pub is : part held a e ≡ forest_words forest

-- WHAT A NODE MADE, and the scope then
pub record Step : Type 0 where
  pub made : Made
  pub scope : Spans

-- WHAT IT LEAVES in a part of so many words, where o is the meaning of it: a forest, or refusal 21
pub data Left (room : ℕ) (us : List ℕ) : Made → Out Forest → Type 0 where
  done : {k : ℕ} {f : Forest} → Filled room us k f → Left room us (Ok k) (ok f)
  full : {n : ℕ} → Left room us (Err (no_room n)) (refused 21 n)

-- the scope and the first `at` entries held are as they were, and for every environment that they show an evaluation in that work table is left
pub record Evaluates (s : Spans) (held after : List ℕ) (room : ℕ) (us : List ℕ) (at : ℕ) (r : Step) (o : ℕ → Env → ℕ → Out Forest) : Type 0 where
  pub kept : r.scope ≡ s
  pub below : take (forest_width * at) after ≡ take (forest_width * at) held
  pub is : (env : Env) → Shows held s env → Left room us r.made (o (at + room / forest_width) env at)

-- in a work table of so many entries: a query; a query in which v has a forest; and that for each of a forest's trees
abbrev pub valued : Query → ℕ → Env → ℕ → Out Forest
valued q top env at = eval top q env at

abbrev pub bodied : ℕ → Forest → Query → ℕ → Env → ℕ → Out Forest
bodied v f q top env at = eval top q ((v, f) ∷ env) at

abbrev pub looped : ℕ → Forest → Query → ℕ → Env → ℕ → Out Forest
looped v f q top env at = for_each (λ x here. eval top q ((v, x) ∷ env) here) f at

-- WHAT THE EVALUATION LEAVES: for every environment that the scope shows, what the query is in it
pub record Evaluated (s : Spans) (held : List ℕ) (room : ℕ) (us : List ℕ) (at : ℕ) (made : Made) (q : Query) : Type 0 where
  pub is : (env : Env) → Shows held s env → Left room us made (eval (at + room / forest_width) q env at)

-- THE BODIES OF A FOR, so far, in one environment
pub record SoFar (v : ℕ) (q : Query) (room at : ℕ) (rest : List ℕ) (source coming : Forest) (k : ℕ) (env : Env) : Type 0 where
  pub forest : Forest
  pub filled : Filled room rest k forest
  pub goes : looped v source q (at + room / forest_width) env at ≡ (looped v coming q (at + room / forest_width) env (at + k) >>= λ h. ok (join forest h))

-- and where its rounds have come to: of the source, held from entry a to e, the trees from entry j on are still to come, and k entries are there
pub record Rounds (v : ℕ) (q : Query) (s : Spans) (held start : List ℕ) (at a e : ℕ) (after rest : List ℕ) (t : Spans) (j k : ℕ) : Type 0 where
  pub kept : t ≡ s
  pub below : take (forest_width * at) after ≡ take (forest_width * at) held
  pub long : length after ≡ length held
  pub source : Forest
  pub was : part held a e ≡ forest_words source
  pub ordered : j ≤ e
  pub coming : Forest
  pub is : part held j e ≡ forest_words coming
  pub so_far : (env : Env) → Shows held s env → SoFar v q (length start) at rest source coming k env
