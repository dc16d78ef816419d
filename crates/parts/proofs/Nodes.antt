-- The query and the condition at a node, by what the node says.
-- Assumes nothing.
use Rattle.std.proofs.Common.{◌≡◌, ℕ, List, ◌<◌, length, sym, subst}
use Rattle.meaning.specs.Records.{Node, node_at}
use Rattle.meaning.specs.Queries.{cond_at, query_at}
use Rattle.uses.specs.Counts.{Lowers}
use Rattle.queries.specs.Says as QuerySays
use Rattle.queries.specs.Says.{query_of}
use Rattle.queries.specs.declared.Query.{Query}
use Rattle.queries.proofs.Named.{query_is}
use Rattle.conds.specs.Says as CondSays
use Rattle.conds.specs.Says.{cond_of}
use Rattle.conds.specs.declared.Cond.{Cond}
use Rattle.conds.proofs.Going.{cond_is}

module _ {C : List Node} {n m : ℕ} (d : Lowers C) (l : n < length C) (e : m ≡ n) where
  pub cond_here : {c : Cond} → CondSays.Says m (node_at C m) c → cond_of n (cond_at C) c ≡ cond_at C n
  cond_here {c} s = sym (cond_is C d l (subst (λ (i : ℕ). CondSays.Says i (node_at C i) c) e s))

  pub query_here : {c : Query} → QuerySays.Says m (node_at C m) c → query_of n (cond_at C) (query_at C) c ≡ query_at C n
  query_here {c} s = sym (query_is C d l (subst (λ (i : ℕ). QuerySays.Says i (node_at C i) c) e s))
