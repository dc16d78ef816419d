-- What a query node of this crate says in the terms of `meaning`: the query at it, from those at the nodes that it names.
-- Assumes nothing.
use Rattle.std.specs.Prelude.{◌≡◌, ℕ}
use Rattle.meaning.specs.Records.{Node}
use Rattle.meaning.specs.Queries as Queries
use Rattle.meaning.specs.Queries.{expand_query}
use Rattle.queries.specs.declared.Query.{Query}

-- the query at node n, from the conditions and the queries at the nodes that it names
abbrev pub query_of : ℕ → (ℕ → Queries.Cond) → (ℕ → Queries.Query) → Query → Queries.Query
query_of n p q Query.Nothing = Queries.nothing n
query_of n p q (Query.Text t) = Queries.text n t
query_of n p q (Query.Element l i) = Queries.element n l (q i)
query_of n p q (Query.Pair i j) = Queries.pair n (q i) (q j)
query_of n p q (Query.Variable v) = Queries.variable n v
query_of n p q (Query.Child v w) = Queries.child n v w
query_of n p q (Query.Dos v w) = Queries.dos n v w
query_of n p q (Query.For v i j) = Queries.for n v (q i) (q j)
query_of n p q (Query.Let v i j) = Queries.let_in n v (q i) (q j)
query_of n p q (Query.When i j) = Queries.when n (p i) (q j)

-- node n, which is x, is this query
pub record Says (n : ℕ) (x : Node) (c : Query) : Type 0 where
  pub is : (p : ℕ → Queries.Cond) (q : ℕ → Queries.Query) → query_of n p q c ≡ expand_query n p q x
