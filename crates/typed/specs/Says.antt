-- What typing a job answers and leaves, in document 01's terms.
-- Assumes nothing.
use Rattle.std.specs.Prelude.{◌≡◌, List, ℕ, ◌*◌, ◌-◌, ◌≤◌, ◌<◌, length, take, Result, Ok, Err}
use Rattle.meaning.specs.Base.{Out, ok, refused, padded, concat_map, type_capacity, code_width}
use Rattle.meaning.specs.Types.{Table, table_words}
use Rattle.meaning.specs.Records.{node_words, Tables}
use Rattle.meaning.specs.Formed.{Formed, VarsRead}
use Rattle.meaning.specs.Queries.{query_at}
use Rattle.meaning.specs.Typing as Typing
use Rattle.meaning.specs.Typing.{typed_types, typed_code}
use Rattle.words.specs.Tables.{table_of, code_of, vars_of}
use Rattle.uses.specs.Counts.{Lowers}
use Rattle.refusals.specs.declared.Refusal.{Refusal}
use Rattle.refusals.specs.Says.{told}
use Rattle.reading.specs.Says.{given_of}
use Rattle.jobs.specs.declared.Job.{Job}
use Rattle.grow.specs.Grow.{Lent, answer_of}
use Rattle.grow.specs.declared.Made.{Made}
use Rattle.leaves.specs.Walk.{walked}
use Rattle.typed.specs.declared.Typed.{Typed}

-- the answer: the result's entry, and how many entries and nodes there are, with the definitions and the variables that were read
abbrev pub seen : Typing.Typed → Typed
seen t = record { result = t.result; types = length t.left.types; nodes = length t.job.code; given = given_of t.job }

unfoldable pub typed_of : Out Typing.Typed → Out Typed
typed_of (ok t) = ok (seen t)
typed_of (refused n place) = refused n place

-- WHAT TYPING A JOB LEAVES: its answer, and the lent tables of so many words
pub record Left (tw cw : ℕ) (r : Result Typed Refusal) (u w : List ℕ) (o : Out Typing.Typed) : Type 0 where
  pub answer : told r ≡ typed_of o
  pub types : u ≡ typed_types tw o
  pub code : w ≡ typed_code cw o

-- lent tables as an accepted job leaves them: its type entries and query nodes, with the definitions and the variables
pub record Ready (types query : List ℕ) (j : Job) : Type 0 where
  pub formed : Formed (take j.given.used j.given.defs) (table_of types j.types)
  pub lent : Lent types j.types
  pub listed : j.given.used ≤ length j.given.defs
  pub vars_inside : 3 * j.given.declared ≤ length j.given.vars
  pub vars_read : VarsRead j.types (vars_of j.given.vars j.given.declared)
  pub code_inside : code_width * j.nodes ≤ length query
  pub lowers : Lowers (code_of query j.nodes)
  pub rooted : 0 < j.nodes

-- the walk from the root of the query that they hold
abbrev pub from_root : List ℕ → List ℕ → Job → Out (Table × ℕ)
from_root types query j =
    walked (type_capacity (length types)) (take j.given.used j.given.defs) (query_at (code_of query j.nodes) (j.nodes - 1)) (vars_of j.given.vars j.given.declared)
    (table_of types j.types)

-- words with as many entries as are answered, and zeros after them
abbrev pub Whole : Result Made Refusal → List ℕ → Type 0
Whole (Ok m) us = Lent us m.count
Whole (Err r) us = Unit {0}

-- what a walk makes of type words ws: its answer is x, and the words that it leaves are whole
pub record Grows (ws us : List ℕ) (made : Result Made Refusal) (x : Out (Table × ℕ)) : Type 0 where
  pub answer : answer_of made us ≡ x
  pub long : length us ≡ length ws
  pub whole : Whole made us

-- a typed job, of what a walk answers over the tables that were read
abbrev pub typed_by : Tables → Out (Table × ℕ) → Out Typing.Typed
typed_by t (ok r) = ok (record { job = t; left = record { types = r.0 }; result = r.1 })
typed_by t (refused n place) = refused n place

-- what is left after a walk that answers so
pub record Settled (us query : List ℕ) (j : Job) (made : Result Made Refusal) (r : Result Typed Refusal) (u w : List ℕ) : Type 0 where
  pub leaves : (t : Tables) → Whole made us → j.given ≡ given_of t → j.nodes ≡ length t.code → query ≡ padded (length query) (concat_map node_words t.code)
      → Left (length us) (length query) r u w (typed_by t (answer_of made us))

-- lent tables as an accepted typing leaves them: those of t
pub record Holds (types query : List ℕ) (r : Typed) (t : Typing.Typed) : Type 0 where
  pub formed : Formed t.job.defs t.left.types
  pub low : t.result < length t.left.types
  pub words : types ≡ padded (length types) (table_words t.left.types)
  pub code : query ≡ padded (length query) (concat_map node_words t.job.code)
  pub named : r.result ≡ t.result
  pub entries : r.types ≡ length t.left.types
  pub nodes_are : r.nodes ≡ length t.job.code
  pub is : r.given ≡ given_of t.job
