-- What running a job answers and leaves, in the terms of `meaning`.
-- Assumes nothing.
use Rattle.std.specs.Prelude.{◌≡◌, List, ◌++◌, map, ℕ, ◌-◌, ◌≤◌, ◌<◌, length, Result, Ok, Err}
use Rattle.meaning.specs.Base.{Out, ok, refused, ◌>>=◌, padded, work_capacity}
use Rattle.meaning.specs.Forests.{Forest, size, forest_words}
use Rattle.meaning.specs.Records.{Node, Var}
use Rattle.meaning.specs.Formed.{VarsRead}
use Rattle.meaning.specs.Queries.{query_at}
use Rattle.meaning.specs.Typing as Typing
use Rattle.meaning.specs.Typing.{root, typed_types, typed_code}
use Rattle.meaning.specs.Values.{Value, load_values, joined}
use Rattle.meaning.specs.Running as Running
use Rattle.meaning.specs.Running.{eval, env_of, ran_typed, work_words}
use Rattle.uses.specs.Counts.{Lowers}
use Rattle.refusals.specs.declared.Refusal.{Refusal}
use Rattle.refusals.specs.Says.{told}
use Rattle.reading.specs.Says.{given_of}
use Rattle.typed.specs.declared.Typed.{Typed}
use Rattle.typed.specs.Says.{Holds}
use Rattle.spans.specs.Shows.{Shows, Inside}
use Rattle.spans.specs.declared.Spans.{Spans}
use Rattle.copies.specs.Fills.{Made, no_room}
use Rattle.values.specs.declared.Loaded.{Loaded}
use Rattle.values.specs.Says.{ends_of}
use Rattle.ran.specs.declared.Ran.{Ran}

-- the answer: the result's first entry and how many it has, the entry of its type, and how many type entries and query nodes there are, with the
-- definitions and the variables
abbrev pub seen : Running.Ran → Ran
seen r = record { first = size r.loaded; length = size r.result; result = r.typed.result; types = length r.typed.left.types; nodes = length r.typed.job.code; given = given_of r.typed.job }

unfoldable pub ran_of : Out Running.Ran → Out Ran
ran_of (ok r) = ok (seen r)
ran_of (refused n place) = refused n place

-- WHAT RUNNING A JOB LEAVES: its answer, and the lent tables of so many words
pub record Left (tw cw ww : ℕ) (r : Result Ran Refusal) (u w x : List ℕ) (o : Out Running.Ran) : Type 0 where
  pub answer : told r ≡ ran_of o
  pub types : u ≡ typed_types tw (ran_typed o)
  pub code : w ≡ typed_code cw (ran_typed o)
  pub work : x ≡ work_words ww o

-- VALUES THAT WERE LOADED: of these variables, so many entries of a work table, and the ends of their forests
pub record Loads (vars : List (ℕ × Var)) (ends : List ℕ) (count : ℕ) (work : List ℕ) (vs : List Value) : Type 0 where
  pub declared : map (λ (v : Value). v.declared) vs ≡ vars
  pub ends_are : ends ≡ padded 16 (ends_of vs)
  pub entries : count ≡ size (joined vs)
  pub laid : work ≡ padded (length work) (forest_words (joined vs))
  pub fits : count ≤ work_capacity (length work)

-- their scope shows them, among so many entries
pub record Spread (vars : List (ℕ × Var)) (ends : List ℕ) (s : Spans) : Type 0 where
  pub is : (count : ℕ) (work : List ℕ) (vs : List Value) → Loads vars ends count work vs → Inside s count × Shows work s (env_of vs)

-- WHAT EVALUATING IS GIVEN: the query's nodes and the declared variables as reading leaves them, and values that were loaded
pub record Ready (C : List Node) (V : List (ℕ × Var)) : Type 0 where
  pub lowers : Lowers C
  pub rooted : 0 < length C
  pub read : VarsRead 4096 V

pub record Begins (V : List (ℕ × Var)) (l : Loaded) (work : List ℕ) : Type 0 where
  pub values : List Value
  pub loads : Loads V l.ends l.entries work values

-- and what it leaves in a work table of so many words, behind a forest: another, or refusal 21
pub data Evaluated (words : ℕ) (after : List ℕ) (f : Forest) : Made → Out Forest → Type 0 where
  done : {k : ℕ} {g : Forest} → size g ≡ k → after ≡ padded words (forest_words f ++ forest_words g) → Evaluated words after f (Ok k) (ok g)
  full : {n : ℕ} → Evaluated words after f (Err (no_room n)) (refused 21 n)

pub record Evaluates (C : List Node) (V : List (ℕ × Var)) (l : Loaded) (work after : List ℕ) (made : Made) : Type 0 where
  pub is : (vs : List Value) → Loads V l.ends l.entries work vs
      → Evaluated (length work) after (joined vs) made (eval (work_capacity (length work)) (query_at C (length C - 1)) (env_of vs) l.entries)

-- WHAT IS LEFT of an evaluation behind a forest
pub record Settles (types query work : List ℕ) (first : ℕ) (y : Typed) (made : Made) (r : Result Ran Refusal) (u w x : List ℕ) : Type 0 where
  pub leaves : (t : Typing.Typed) (f : Forest) (o : Out Forest) → Holds types query y t → first ≡ size f → Evaluated (length work) work f made o
      → Left (length types) (length query) (length work) r u w x (o >>= λ e. ok (record { typed = t; loaded = f; result = e }))

-- a typed job's run
abbrev pub running : ℕ → List ℕ → Typing.Typed → Out Running.Ran
running room values t = do
  vs ← load_values room t.job.vars values
  e ← eval room (root t.job) (env_of vs) (size (joined vs))
  ok (record { typed = t; loaded = joined vs; result = e })

-- what is left after typing
pub record Answers (values types query : List ℕ) (words : ℕ) (y : Typed) (r : Result Ran Refusal) (u w x : List ℕ) : Type 0 where
  pub leaves : (t : Typing.Typed) → Holds types query y t → Left (length types) (length query) words r u w x (running (work_capacity words) values t)
