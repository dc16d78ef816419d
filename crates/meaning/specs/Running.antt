-- Running: what a query means (S figures 4 and 6), its evaluation in a work table with room (21), and a run, 1 to 16 and 18 to 21.
-- Assumes nothing.
use Rattle.std.specs.Prelude.{ℕ, ◌+◌, Bool, true, false, not, ◌||◌, List, ◌∷◌, ◌++◌, map, leb, ltb, eqb}
use Rattle.meaning.specs.Base.{Out, ok, ◌>>=◌, require, find, otherwise, lent, Caps}
use Rattle.meaning.specs.Forests.{Forest, end, leaf, tree, join, size, forest_words, same, keep, select, children, below, over}
use Rattle.meaning.specs.Queries as Queries
use Rattle.meaning.specs.Queries.{Query, Cond}
use Rattle.meaning.specs.Typing.{Typed, type_job, root}
use Rattle.meaning.specs.Values.{Value, load_values, joined}

-- the forests of the variables in scope, the innermost first
abbrev pub Env : Type 0
Env = List (ℕ × Forest)

abbrev pub value_of : Env → ℕ → Forest
value_of r v = otherwise end (find v r)

-- CONDITIONS. "equal holds if both forests are the same, entry for entry; empty if there is none"
unfoldable pub holds : Cond → Env → Bool
holds (Queries.always n) r = true
holds (Queries.never n) r = false
holds (Queries.equal n v w) r = same (value_of r v) (value_of r w)
holds (Queries.empty n v) r = eqb (size (value_of r v)) 0
holds (Queries.or n p q) r = holds p r || holds q r
holds (Queries.not n p) r = not (holds p r)

-- THE MEANING of a query, whatever the room
unfoldable pub meaning_of : Query → Env → Forest
meaning_of (Queries.nothing n) r = end
meaning_of (Queries.text n t) r = leaf t end
meaning_of (Queries.element n l q) r = tree l (meaning_of q r) end
meaning_of (Queries.pair n p q) r = join (meaning_of p r) (meaning_of q r)
meaning_of (Queries.variable n v) r = value_of r v
meaning_of (Queries.child n v w) r = select w (children (value_of r v))
meaning_of (Queries.dos n v w) r = select w (below (value_of r v))
meaning_of (Queries.for n v p q) r = over (λ x. meaning_of q ((v, x) ∷ r)) (meaning_of p r)
meaning_of (Queries.let_in n v p q) r = meaning_of q ((v, meaning_of p r) ∷ r)
meaning_of (Queries.when n p q) r = keep (holds p r) (meaning_of q r)

-- EVALUATION. "A node evaluated at place t leaves its forest from t on." 21 "work table full .. running", at the query node that writes
abbrev pub written : ℕ → ℕ → ℕ → Forest → Out Forest
written room n at f = do
  _ ← require (leb (at + size f) room) 21 n
  ok f

-- "the bodies one above the other for each tree in turn"
unfoldable pub for_each : (Forest → ℕ → Out Forest) → Forest → ℕ → Out Forest
for_each body end at = ok end
for_each body (leaf t r) at = do
  f ← body (leaf t end) at
  g ← for_each body r (at + size f)
  ok (join f g)
for_each body (tree l i r) at = do
  f ← body (tree l i end) at
  g ← for_each body r (at + size f)
  ok (join f g)

unfoldable pub eval : ℕ → Query → Env → ℕ → Out Forest
eval room (Queries.nothing n) r at = ok end
eval room (Queries.text n t) r at = written room n at (leaf t end)
-- "Element: its entry, then the body at the next place."
eval room (Queries.element n l q) r at = do
  _ ← require (ltb at room) 21 n
  f ← eval room q r (at + 1)
  ok (tree l f end)
-- "Pair: one after the other."
eval room (Queries.pair n p q) r at = do
  f ← eval room p r at
  g ← eval room q r (at + size f)
  ok (join f g)
-- "Variable, child, dos: copies of the chosen trees in document order"
eval room (Queries.variable n v) r at = written room n at (value_of r v)
eval room (Queries.child n v w) r at = written room n at (select w (children (value_of r v)))
eval room (Queries.dos n v w) r at = written room n at (select w (below (value_of r v)))
-- "for: source at t, the bodies one above the other for each tree in turn, then all moved down"
eval room (Queries.for n v p q) r at = do
  f ← eval room p r at
  for_each (λ x here. eval room q ((v, x) ∷ r) here) f (at + size f)
-- "let: source at t, body above it, body moved down to t"
eval room (Queries.let_in n v p q) r at = do
  f ← eval room p r at
  eval room q ((v, f) ∷ r) (at + size f)
-- "when: q, or nothing."
eval room (Queries.when n p q) r at = elim (holds p r) [ true ↦ eval room q r at | false ↦ ok end ]

-- a run: the typed job, the values as they stand first in the work table, and the result behind them
pub record Ran : Type 0 where
  pub typed : Typed
  pub loaded : Forest
  pub result : Forest

abbrev pub env_of : List Value → Env
env_of vs = map (λ (v : Value). (v.declared.0, v.part.forest)) vs

-- RUNNING A JOB on values, in a work table of so many entries: "1 to 16 first, then 18 .., then 19, then 20 .., then 21"
unfoldable pub run_job : Caps → ℕ → List ℕ → List ℕ → Out Ran
run_job caps room s values = do
  t ← type_job caps s
  vs ← load_values room t.job.vars values
  g ← eval room (root t.job) (env_of vs) (size (joined vs))
  ok (record { typed = t; loaded = joined vs; result = g })

-- the typing in a run, for the lent type and query tables
abbrev pub ran_typed : Out Ran → Out Typed
ran_typed o = o >>= λ r. ok r.typed

-- "All entries above the result are zero": the lent work table of so many words
abbrev pub work_words : ℕ → Out Ran → List ℕ
work_words words o = lent words (λ (r : Ran). forest_words r.loaded ++ forest_words r.result) o
