-- The query at a node of a table by what its node says; what it names: variables up to 63, labels, and lower nodes.
-- Assumes nothing.
use mathlib.Core.Path.{◌≡◌, sym, subst, ◌∙◌}
use mathlib.Core.List.{List}
use Prim.Native.Nat.{ℕ, ◌≤◌, ◌<◌}
use lib.ListN.{length}
use Rattle.meaning.specs.Base.{find}
use Rattle.meaning.specs.Records.{Node, node, node_at}
use Rattle.meaning.specs.Formed.{NodeLow, query·empty, query·text, query·element, query·pair, query·variable, query·child, query·dos, query·for, query·let, query·when, condition·true, condition·false, condition·equal, condition·empty, condition·or, condition·not}
use Rattle.meaning.specs.Queries as Queries
use Rattle.meaning.specs.Queries.{expand_query, cond_at, query_at}
use Rattle.meaning.proofs.Lists.{at_is}
use Rattle.meaning.proofs.Codes.{query_law}
use Rattle.uses.specs.Counts.{Lowers}
use Rattle.queries.specs.Says.{query_of, Says}
use Rattle.queries.specs.declared.Query.{Query}

-- WHAT A QUERY NAMES. The numbers of a condition's node and of a query's
abbrev pub top_cond : Queries.Cond → ℕ
top_cond (Queries.always n) = n
top_cond (Queries.never n) = n
top_cond (Queries.equal n v w) = n
top_cond (Queries.empty n v) = n
top_cond (Queries.or n p q) = n
top_cond (Queries.not n p) = n

abbrev pub top : Queries.Query → ℕ
top (Queries.nothing n) = n
top (Queries.text n t) = n
top (Queries.element n l q) = n
top (Queries.pair n p q) = n
top (Queries.variable n v) = n
top (Queries.child n v w) = n
top (Queries.dos n v w) = n
top (Queries.for n v p q) = n
top (Queries.let_in n v p q) = n
top (Queries.when n p q) = n

-- labels from 1 to 65534, variables up to 63, and conditions and queries at nodes below n
abbrev pub LowAt : ℕ → Queries.Query → Type 0
LowAt n (Queries.nothing m) = Unit {0}
LowAt n (Queries.text m t) = Unit {0}
LowAt n (Queries.element m l q) = (1 ≤ l) × (l ≤ 65534) × (top q < n)
LowAt n (Queries.pair m p q) = (top p < n) × (top q < n)
LowAt n (Queries.variable m v) = v ≤ 63
LowAt n (Queries.child m v w) = v ≤ 63
LowAt n (Queries.dos m v w) = v ≤ 63
LowAt n (Queries.for m v p q) = (v ≤ 63) × (top p < n) × (top q < n)
LowAt n (Queries.let_in m v p q) = (v ≤ 63) × (top p < n) × (top q < n)
LowAt n (Queries.when m p q) = (top_cond p < n) × (top q < n)

low_expand : {code : List Node} {n : ℕ} {x : Node} → NodeLow code n x → LowAt n (expand_query n Queries.always Queries.nothing x)
unfolding expand_query find
low_expand query·empty = tt
low_expand query·text = tt
low_expand (query·element h k q) = (h, k, q.low)
low_expand (query·pair p q) = (p.low, q.low)
low_expand (query·variable v) = v
low_expand (query·child v) = v
low_expand (query·dos v) = v
low_expand (query·for v p q) = (v, p.low, q.low)
low_expand (query·let v p q) = (v, p.low, q.low)
low_expand (query·when p q) = (p.low, q.low)
low_expand condition·true = tt
low_expand condition·false = tt
low_expand (condition·equal v w) = tt
low_expand (condition·empty v) = tt
low_expand (condition·or p q) = tt
low_expand (condition·not p) = tt

-- ONE NODE of a table
module _ (C : List Node) (lowers : Lowers C) {n : ℕ} (l : n < length C) {c : Query} (s : Says n (node_at C n) c) where
  -- the query at it, by what the node says
  pub query_is : query_at C n ≡ query_of n (cond_at C) (query_at C) c
  query_is = query_law C lowers.low n l ∙ sym (s.is (cond_at C) (query_at C))

  -- what it names
  query_low : LowAt n (query_of n Queries.always Queries.nothing c)
  query_low = subst (LowAt n) (sym (s.is Queries.always Queries.nothing)) (low_expand (lowers.low n (node_at C n) (at_is C n (node 0 0 0 0) l)))

  pub element_low : {a q : ℕ} → c ≡ Query.Element a q → (1 ≤ a) × (a ≤ 65534) × (q < n)
  element_low e = rw e at query_low

  pub pair_low : {p q : ℕ} → c ≡ Query.Pair p q → (p < n) × (q < n)
  pair_low e = rw e at query_low

  pub variable_low : {v : ℕ} → c ≡ Query.Variable v → v ≤ 63
  variable_low e = rw e at query_low

  pub child_low : {v w : ℕ} → c ≡ Query.Child v w → v ≤ 63
  child_low e = rw e at query_low

  pub dos_low : {v w : ℕ} → c ≡ Query.Dos v w → v ≤ 63
  dos_low e = rw e at query_low

  pub for_low : {v p q : ℕ} → c ≡ Query.For v p q → (v ≤ 63) × (p < n) × (q < n)
  for_low e = rw e at query_low

  pub let_low : {v p q : ℕ} → c ≡ Query.Let v p q → (v ≤ 63) × (p < n) × (q < n)
  let_low e = rw e at query_low

  pub when_low : {p q : ℕ} → c ≡ Query.When p q → (p < n) × (q < n)
  when_low e = rw e at query_low
