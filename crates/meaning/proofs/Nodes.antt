-- The node numbers of a query: a property that all of them have.
-- Assumes nothing.
use Prim.Native.Nat.{ℕ}
use Rattle.meaning.specs.Queries as Queries
use Rattle.meaning.specs.Queries.{Query, Cond}

unfoldable pub InCond : (ℕ → Type 0) → Cond → Type 0
InCond P (Queries.always n) = P n
InCond P (Queries.never n) = P n
InCond P (Queries.equal n v w) = P n
InCond P (Queries.empty n v) = P n
InCond P (Queries.or n p q) = P n × InCond P p × InCond P q
InCond P (Queries.not n p) = P n × InCond P p

unfoldable pub InQuery : (ℕ → Type 0) → Query → Type 0
InQuery P (Queries.nothing n) = P n
InQuery P (Queries.text n t) = P n
InQuery P (Queries.element n l q) = P n × InQuery P q
InQuery P (Queries.pair n p q) = P n × InQuery P p × InQuery P q
InQuery P (Queries.variable n v) = P n
InQuery P (Queries.child n v w) = P n
InQuery P (Queries.dos n v w) = P n
InQuery P (Queries.for n v p q) = P n × InQuery P p × InQuery P q
InQuery P (Queries.let_in n v p q) = P n × InQuery P p × InQuery P q
InQuery P (Queries.when n p q) = P n × InCond P p × InQuery P q

every_cond : (P : ℕ → Type 0) → ((n : ℕ) → P n) → (p : Cond) → InCond P p
unfolding InCond
every_cond P h (Queries.always n) = h n
every_cond P h (Queries.never n) = h n
every_cond P h (Queries.equal n v w) = h n
every_cond P h (Queries.empty n v) = h n
every_cond P h (Queries.or n p q) = (h n, every_cond P h p, every_cond P h q)
every_cond P h (Queries.not n p) = (h n, every_cond P h p)

-- what every number has, all nodes have
pub everywhere : (P : ℕ → Type 0) → ((n : ℕ) → P n) → (q : Query) → InQuery P q
unfolding InQuery
everywhere P h (Queries.nothing n) = h n
everywhere P h (Queries.text n t) = h n
everywhere P h (Queries.element n l q) = (h n, everywhere P h q)
everywhere P h (Queries.pair n p q) = (h n, everywhere P h p, everywhere P h q)
everywhere P h (Queries.variable n v) = h n
everywhere P h (Queries.child n v w) = h n
everywhere P h (Queries.dos n v w) = h n
everywhere P h (Queries.for n v p q) = (h n, everywhere P h p, everywhere P h q)
everywhere P h (Queries.let_in n v p q) = (h n, everywhere P h p, everywhere P h q)
everywhere P h (Queries.when n p q) = (h n, every_cond P h p, everywhere P h q)
