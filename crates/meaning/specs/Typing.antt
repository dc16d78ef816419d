-- Typing: scope, conditions, and the walk from the root with refusals 13 to 16 (S figures 9 and 10); typing a job, 1 to 16.
-- Assumes nothing.
use Rattle.std.specs.Prelude.{ℕ, ◌-◌, not, List, ◌∷◌, length}
use Rattle.meaning.specs.Base as Base
use Rattle.meaning.specs.Base.{Out, ok, refused, require, given, find, is_some, concat_map, lent, Caps}
use Rattle.meaning.specs.Types as Types
use Rattle.meaning.specs.Types.{Table, Defs, table_words}
use Rattle.meaning.specs.Shapes.{shape, quant}
use Rattle.meaning.specs.Records.{Var, tree, forest, type_in, node_words, Tables}
use Rattle.meaning.specs.Checks.{read_job}
use Rattle.meaning.specs.Queries as Queries
use Rattle.meaning.specs.Queries.{Query, Cond, query_at}
use Rattle.meaning.specs.Rules.{Does, ◌>>=◌, answer, from_out, Rule, append, prime, times, child_rule, dos_rule}

-- SCOPE (S definition 5.4). The variables that may be used, the innermost first
abbrev pub Scope : Type 0
Scope = List (ℕ × Var)

-- 13 "variable not in scope"
abbrev pub lookup : ℕ → Scope → ℕ → Out Var
lookup n g v = given (find v g) 13 n

-- 14 "for or let binds one in scope"
abbrev pub unbound : ℕ → Scope → ℕ → Out (Unit {0})
unbound n g v = require (not (is_some (find v g))) 14 n

-- 15 "child or dos on a forest variable"
abbrev pub only_tree : ℕ → Var → Out ℕ
only_tree n (tree e) = ok e
only_tree n (forest e) = refused 15 n

-- the type of a tree variable: 13, then 15
abbrev pub tree_type : ℕ → Scope → ℕ → Out ℕ
tree_type n g v = Base.◌>>=◌ (lookup n g v) λ x. only_tree n x

-- THE WALK'S STATE: the type table
pub record State : Type 0 where
  pub types : Table

abbrev pub Walk : Type 0 → Type 0
Walk A = Does State A

abbrev pub leaving : {A : Type 0} → State → Out (Table × A) → Out (State × A)
leaving s (ok r) = ok (record { types = r.0 }, r.1)
leaving s (refused n place) = refused n place

-- a rule on the state's type table
abbrev pub on_types : {A : Type 0} → Rule A → Walk A
on_types m = λ s. leaving s (m s.types)

-- a condition: only its variables are looked up, left field first
unfoldable pub type_cond : Cond → Scope → Out (Unit {0})
type_cond (Queries.always n) g = ok tt
type_cond (Queries.never n) g = ok tt
type_cond (Queries.equal n v w) g = Base.◌>>=◌ (lookup n g v) λ x. Base.◌>>=◌ (lookup n g w) λ y. ok tt
type_cond (Queries.empty n v) g = Base.◌>>=◌ (lookup n g v) λ x. ok tt
type_cond (Queries.or n p q) g = Base.◌>>=◌ (type_cond p g) λ _. type_cond q g
type_cond (Queries.not n p) g = type_cond p g

-- the type table's capacity and the definitions stay as they are
module _ (room : ℕ) (D : Defs) where
  -- FOR. "source T; prime(T); v is a tree variable of that type in the body only; then body.q with q = quant(T)": for node n, the source's entry, and
  -- the body for an entry that v has (S figure 10, TypeFor)
  unfoldable pub for_rule : ℕ → ℕ → (ℕ → Walk ℕ) → Walk ℕ
  for_rule n e body = λ s. (do
    x ← on_types (prime room n (shape D s.types e))
    u ← body x
    on_types (times room n u (quant (shape D s.types e)))) s

  -- "The query is walked from the root, left field first."
  unfoldable pub type_of : Query → Scope → Walk ℕ
  -- "(): 0. Text: 1."
  type_of (Queries.nothing n) g = answer 0
  type_of (Queries.text n t) g = answer 1
  -- "Element: body, then append element. Pair: both, then append pair. Variable: its entry."
  type_of (Queries.element n l q) g = do
    x ← type_of q g
    on_types (append room n (Types.element l x))
  type_of (Queries.pair n p q) g = do
    x ← type_of p g
    y ← type_of q g
    on_types (append room n (Types.pair x y))
  type_of (Queries.variable n v) g = do
    x ← from_out (lookup n g v)
    answer (type_in x)
  type_of (Queries.child n v w) g = do
    e ← from_out (tree_type n g v)
    on_types (child_rule room n D w e)
  type_of (Queries.dos n v w) g = do
    e ← from_out (tree_type n g v)
    on_types (dos_rule room n D w e)
  -- 14 is "tested after the source, before prime"
  type_of (Queries.for n v p q) g = do
    e ← type_of p g
    _ ← from_out (unbound n g v)
    for_rule n e (λ x. type_of q ((v, tree x) ∷ g))
  -- "let: source, then v is a forest variable of that type in the body only; the body's entry."
  type_of (Queries.let_in n v p q) g = do
    e ← type_of p g
    _ ← from_out (unbound n g v)
    type_of q ((v, forest e) ∷ g)
  -- "when: condition, then q, then append opt."
  type_of (Queries.when n p q) g = do
    _ ← from_out (type_cond p g)
    x ← type_of q g
    on_types (append room n (Types.opt x))

-- "The last record is the root."
abbrev pub root : Tables → Query
root t = query_at t.code (length t.code - 1)

-- a typed job: the tables that were read, the state as the walk leaves it, and the result's entry
pub record Typed : Type 0 where
  pub job : Tables
  pub left : State
  pub result : ℕ

abbrev pub typed_as : Tables → Out (State × ℕ) → Out Typed
typed_as t (ok r) = ok (record { job = t; left = r.0; result = r.1 })
typed_as t (refused n place) = refused n place

-- TYPING A JOB: refusals 1 to 16
unfoldable pub type_tables : ℕ → Tables → Out Typed
type_tables room t = typed_as t (type_of room t.defs (root t) t.vars (record { types = t.types }))

unfoldable pub type_job : Caps → List ℕ → Out Typed
type_job caps s = Base.◌>>=◌ (read_job caps s) λ t. type_tables caps.types t

-- THE LENT TABLES of so many words, after reading and after typing
abbrev pub read_types : ℕ → Out Tables → List ℕ
read_types words o = lent words (λ (t : Tables). table_words t.types) o

abbrev pub read_code : ℕ → Out Tables → List ℕ
read_code words o = lent words (λ (t : Tables). concat_map node_words t.code) o

abbrev pub typed_types : ℕ → Out Typed → List ℕ
typed_types words o = lent words (λ (r : Typed). table_words r.left.types) o

abbrev pub typed_code : ℕ → Out Typed → List ℕ
typed_code words o = lent words (λ (r : Typed). concat_map node_words r.job.code) o
