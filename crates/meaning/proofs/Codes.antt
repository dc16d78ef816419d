-- Queries as terms: where nodes name lower ones, the term at a node is its expansion by the terms at the nodes that it names. Its numbers and labels.
-- Assumes nothing.
use mathlib.Core.Path.{◌≡◌, refl, ap, ap₂}
use mathlib.Core.List.{List}
use Prim.Native.Nat.{ℕ, zero, suc, ◌<◌}
use native.Mathlib.Omega.{arith}
use lib.ListN.{length}
use Rattle.meaning.specs.Base.{At, In, find}
use Rattle.meaning.specs.Records.{Node, node, node_at, forms}
use Rattle.meaning.specs.Checks.{named, uses_of}
use Rattle.meaning.specs.Queries as Queries
use Rattle.meaning.specs.Queries.{Cond, Query, expand_cond, expand_query, cond_in, query_in, cond_at, query_at}
use Rattle.meaning.proofs.Lists.{at_is, in_cons, in_none}
use Rattle.meaning.proofs.Nodes.{InCond, InQuery}
use Rattle.meaning.specs.Formed.{NodeLow, query·empty, query·text, query·element, query·pair, query·variable, query·child, query·dos, query·for, query·let, query·when, condition·true, condition·false, condition·equal, condition·empty, condition·or, condition·not}
use Rattle.meaning.proofs.Labels.{Labels}

-- ONE NODE, which names lower ones
module _ {code : List Node} {n : ℕ} where
  -- what it names is lower
  pub low_uses : {x : Node} → NodeLow code n x → (i : ℕ) → In i (uses_of x) → i < n
  unfolding find forms named
  low_uses query·empty = λ i. in_none
  low_uses query·text = λ i. in_none
  low_uses (query·element h k q) = in_cons q.low (λ i. in_none)
  low_uses (query·pair p q) = in_cons p.low (in_cons q.low (λ i. in_none))
  low_uses (query·variable v) = λ i. in_none
  low_uses (query·child v) = λ i. in_none
  low_uses (query·dos v) = λ i. in_none
  low_uses (query·for v p q) = in_cons p.low (in_cons q.low (λ i. in_none))
  low_uses (query·let v p q) = in_cons p.low (in_cons q.low (λ i. in_none))
  low_uses (query·when p q) = in_cons p.low (in_cons q.low (λ i. in_none))
  low_uses condition·true = λ i. in_none
  low_uses condition·false = λ i. in_none
  low_uses (condition·equal v w) = λ i. in_none
  low_uses (condition·empty v) = λ i. in_none
  low_uses (condition·or p q) = in_cons p.low (in_cons q.low (λ i. in_none))
  low_uses (condition·not p) = in_cons p.low (λ i. in_none)

  -- only the terms at lower nodes count
  module _ (f g : ℕ → Cond) (p q : ℕ → Query) (c : (i : ℕ) → i < n → f i ≡ g i) (d : (i : ℕ) → i < n → p i ≡ q i) where
    expand_alike : {x : Node} → NodeLow code n x → (expand_cond n f x ≡ expand_cond n g x) × (expand_query n f p x ≡ expand_query n g q x)
    unfolding expand_cond expand_query find
    expand_alike query·empty = (refl, refl)
    expand_alike query·text = (refl, refl)
    expand_alike (query·element {l = l} h k a) = (refl, ap (Queries.element n l) (d _ a.low))
    expand_alike (query·pair a b) = (refl, ap₂ (Queries.pair n) (d _ a.low) (d _ b.low))
    expand_alike (query·variable v) = (refl, refl)
    expand_alike (query·child v) = (refl, refl)
    expand_alike (query·dos v) = (refl, refl)
    expand_alike (query·for {v = v} h a b) = (refl, ap₂ (Queries.for n v) (d _ a.low) (d _ b.low))
    expand_alike (query·let {v = v} h a b) = (refl, ap₂ (Queries.let_in n v) (d _ a.low) (d _ b.low))
    expand_alike (query·when a b) = (refl, ap₂ (Queries.when n) (c _ a.low) (d _ b.low))
    expand_alike condition·true = (refl, refl)
    expand_alike condition·false = (refl, refl)
    expand_alike (condition·equal v w) = (refl, refl)
    expand_alike (condition·empty v) = (refl, refl)
    expand_alike (condition·or a b) = (ap₂ (Queries.or n) (c _ a.low) (c _ b.low), refl)
    expand_alike (condition·not a) = (ap (Queries.not n) (c _ a.low), refl)

  module _ (P : ℕ → Type 0) (f : ℕ → Cond) (q : ℕ → Query) (h : P n) (c : (i : ℕ) → i < n → InCond P (f i)) (d : (i : ℕ) → i < n → InQuery P (q i)) where
    expand_nodes : {x : Node} → NodeLow code n x → InCond P (expand_cond n f x) × InQuery P (expand_query n f q x)
    unfolding expand_cond expand_query find InCond InQuery
    expand_nodes query·empty = (h, h)
    expand_nodes query·text = (h, h)
    expand_nodes (query·element l m a) = (h, (h, d _ a.low))
    expand_nodes (query·pair a b) = (h, (h, d _ a.low, d _ b.low))
    expand_nodes (query·variable v) = (h, h)
    expand_nodes (query·child v) = (h, h)
    expand_nodes (query·dos v) = (h, h)
    expand_nodes (query·for v a b) = (h, (h, d _ a.low, d _ b.low))
    expand_nodes (query·let v a b) = (h, (h, d _ a.low, d _ b.low))
    expand_nodes (query·when a b) = (h, (h, c _ a.low, d _ b.low))
    expand_nodes condition·true = (h, h)
    expand_nodes condition·false = (h, h)
    expand_nodes (condition·equal v w) = (h, h)
    expand_nodes (condition·empty v) = (h, h)
    expand_nodes (condition·or a b) = ((h, c _ a.low, c _ b.low), h)
    expand_nodes (condition·not a) = ((h, c _ a.low), h)

  module _ (f : ℕ → Cond) (q : ℕ → Query) (d : (i : ℕ) → i < n → Labels (q i)) where
    expand_labels : {x : Node} → NodeLow code n x → Labels (expand_query n f q x)
    unfolding expand_query find Labels
    expand_labels query·empty = tt
    expand_labels query·text = tt
    expand_labels (query·element l m a) = (l, m, d _ a.low)
    expand_labels (query·pair a b) = (d _ a.low, d _ b.low)
    expand_labels (query·variable v) = tt
    expand_labels (query·child v) = tt
    expand_labels (query·dos v) = tt
    expand_labels (query·for v a b) = (d _ a.low, d _ b.low)
    expand_labels (query·let v a b) = (d _ a.low, d _ b.low)
    expand_labels (query·when a b) = d _ b.low
    expand_labels condition·true = tt
    expand_labels condition·false = tt
    expand_labels (condition·equal v w) = tt
    expand_labels (condition·empty v) = tt
    expand_labels (condition·or a b) = tt
    expand_labels (condition·not a) = tt

-- from all lower numbers to the next
climb : (P : ℕ → Type 0) (top : ℕ) → ((n : ℕ) → n < top → ((i : ℕ) → i < n → P i) → P n) → (k n : ℕ) → n < k → n < top → P n
climb P top f zero n l m = absurd (omega arith)
climb P top f (suc k) n l m = f n m (λ i h. climb P top f k i (omega arith) (omega arith))

-- A QUERY TABLE whose nodes name lower ones
module _ (code : List Node) (low : (n : ℕ) (x : Node) → At code n x → NodeLow code n x) where
  low_at : (n : ℕ) → n < length code → NodeLow code n (node_at code n)
  low_at n l = low n (node_at code n) (at_is code n (node 0 0 0 0) l)

  -- any depth that is enough gives the same
  depth_alike : (k m n : ℕ) → n < k → n < m → n < length code → (cond_in k code n ≡ cond_in m code n) × (query_in k code n ≡ query_in m code n)
  unfolding cond_in query_in
  depth_alike zero m n l r h = absurd (omega arith)
  depth_alike (suc k) zero n l r h = absurd (omega arith)
  depth_alike (suc k) (suc m) n l r h =
      expand_alike (λ i. cond_in k code i) (λ i. cond_in m code i) (λ i. query_in k code i) (λ i. query_in m code i)
      (λ i j. (depth_alike k m i (omega arith) (omega arith) (omega arith)).0)
      (λ i j. (depth_alike k m i (omega arith) (omega arith) (omega arith)).1)
      (low_at n h)

  pub cond_law : (n : ℕ) → n < length code → cond_at code n ≡ expand_cond n (λ i. cond_at code i) (node_at code n)
  unfolding cond_in
  cond_law n h = (depth_alike (length code) (suc (length code)) n h (omega arith) h).0

  pub query_law : (n : ℕ) → n < length code → query_at code n ≡ expand_query n (λ i. cond_at code i) (λ i. query_at code i) (node_at code n)
  unfolding query_in
  query_law n h = (depth_alike (length code) (suc (length code)) n h (omega arith) h).1

  abbrev Inside : ℕ → Type 0
  Inside i = i < length code

  both_nodes : (n : ℕ) → n < length code → InCond Inside (cond_at code n) × InQuery Inside (query_at code n)
  both_nodes n h =
      climb (λ n. InCond Inside (cond_at code n) × InQuery Inside (query_at code n)) (length code)
      (λ n m below. rw (cond_law n m, query_law n m) (expand_nodes Inside (λ i. cond_at code i) (λ i. query_at code i) m (λ i j. (below i j).0) (λ i j. (below i j).1) (low_at n m)))
      (length code) n h h

  pub query_nodes_lem : (n : ℕ) → n < length code → InQuery (λ i. i < length code) (query_at code n)
  query_nodes_lem n h = (both_nodes n h).1

  pub query_labels : (n : ℕ) → n < length code → Labels (query_at code n)
  query_labels n h =
      climb (λ n. Labels (query_at code n)) (length code)
      (λ n m below. rw (query_law n m) (expand_labels (λ i. cond_at code i) (λ i. query_at code i) below (low_at n m)))
      (length code) n h h
