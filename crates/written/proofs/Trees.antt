-- A query table in which each node but the root is used once has no more nodes in its query than the table has: each node of it counts once.
-- Assumes nothing.
use mathlib.Core.Path.{◌≡◌, refl, sym, ap, subst, ◌∙◌}
use mathlib.Core.Bool.{Bool, true, false}
use mathlib.Core.List.{List, [], ◌∷◌, ◌++◌, append-nil}
use Prim.Native.Nat.{ℕ, zero, suc, ◌+◌, ◌-◌, ◌≤◌, ◌<◌}
use native.Mathlib.Omega.{arith}
use lib.ListN.{length, take}
use lib.Seq.{take-suc, take-length}
use Rattle.meaning.specs.Base.{At, In, find, count, concat_map}
use Rattle.meaning.specs.Records.{Node, node, node_at, forms, is_condition}
use Rattle.meaning.specs.Formed.{NodeLow, query·empty, query·text, query·element, query·pair, query·variable, query·child, query·dos, query·for, query·let, query·when, condition·true, condition·false, condition·equal, condition·empty, condition·or, condition·not}
use Rattle.meaning.specs.Checks.{named, uses_of, uses}
use Rattle.meaning.specs.Queries.{Cond, Query, expand_cond, expand_query, cond_at, query_at}
use Rattle.meaning.proofs.Lists.{at_is, concat_append, in_both, in_none}
use Rattle.meaning.proofs.Codes.{low_uses, cond_law, query_law}
use Rattle.written.proofs.Flat.{cond_nodes, query_nodes}
use Rattle.written.proofs.Sums.{sum_to, sum_of, sum_append, sum_once}

module _ (C : List Node) (low : (n : ℕ) (x : Node) → At C n x → NodeLow C n x) where
  -- the nodes of the query or the condition at a node
  abbrev size_for : Bool → Cond → Query → ℕ
  size_for true p q = cond_nodes p
  size_for false p q = query_nodes q

  abbrev size : ℕ → ℕ
  size n = size_for (is_condition (node_at C n).kind) (cond_at C n) (query_at C n)

  size_cond : (n : ℕ) → is_condition (node_at C n).kind ≡ true → size n ≡ cond_nodes (cond_at C n)
  size_cond n e = ap (λ (b : Bool). size_for b (cond_at C n) (query_at C n)) e

  size_query : (n : ℕ) → is_condition (node_at C n).kind ≡ false → size n ≡ query_nodes (query_at C n)
  size_query n e = ap (λ (b : Bool). size_for b (cond_at C n) (query_at C n)) e

  low_at : (n : ℕ) → n < length C → NodeLow C n (node_at C n)
  low_at n l = low n (node_at C n) (at_is C n (node 0 0 0 0) l)

  -- one, and those that it names
  sized : (n : ℕ) (x : Node) → NodeLow C n x → size_for (is_condition x.kind) (expand_cond n (cond_at C) x) (expand_query n (cond_at C) (query_at C) x) ≡ 1 + sum_of size (uses_of x)
  unfolding expand_cond expand_query find forms named sum_of cond_nodes query_nodes
  sized n _ query·empty = refl
  sized n _ query·text = refl
  sized n _ (query·element {q = q} l m a) = omega (arith, size_query q a.sort)
  sized n _ (query·pair {p = p} {q = q} a b) = omega (arith, size_query p a.sort, size_query q b.sort)
  sized n _ (query·variable v) = refl
  sized n _ (query·child v) = refl
  sized n _ (query·dos v) = refl
  sized n _ (query·for {p = p} {q = q} v a b) = omega (arith, size_query p a.sort, size_query q b.sort)
  sized n _ (query·let {p = p} {q = q} v a b) = omega (arith, size_query p a.sort, size_query q b.sort)
  sized n _ (query·when {p = p} {q = q} a b) = omega (arith, size_cond p a.sort, size_query q b.sort)
  sized n _ condition·true = refl
  sized n _ condition·false = refl
  sized n _ (condition·equal v w) = refl
  sized n _ (condition·empty v) = refl
  sized n _ (condition·or {p = p} {q = q} a b) = omega (arith, size_cond p a.sort, size_cond q b.sort)
  sized n _ (condition·not {p = p} a) = omega (arith, size_cond p a.sort)

  size_is : (n : ℕ) → n < length C → size n ≡ 1 + sum_of size (uses_of (node_at C n))
  size_is n l =
      (λ i. size_for (is_condition (node_at C n).kind) (cond_law C low n l i) (query_law C low n l i)) ∙ sized n (node_at C n) (low_at n l)

  -- all of them together
  total : (k : ℕ) → k ≤ length C → sum_to size k ≡ k + sum_of size (concat_map uses_of (take k C))
  unfolding sum_to sum_of concat_map
  total zero h = refl
  total (suc k) h =
      let z = node 0 0 0 0 in
      let front = concat_map uses_of (take k C) in
      let e : concat_map uses_of (take (suc k) C) ≡ front ++ (uses_of (node_at C k) ++ []) = ap (concat_map uses_of) (take-suc C k z (omega arith)) ∙ concat_append uses_of (take k C) (node_at C k ∷ []) in
      omega (arith, total k (omega arith), size_is k (omega arith), ap (sum_of size) e, sum_append size front (uses_of (node_at C k) ++ []), sum_append size (uses_of (node_at C k)) [])

  -- what nodes name is lower than the root
  uses_low : (k : ℕ) → k ≤ length C → (i : ℕ) → In i (concat_map uses_of (take k C)) → suc i < k
  unfolding concat_map
  uses_low zero h i p = in_none p
  uses_low (suc k) h i p =
      let front = concat_map uses_of (take k C) in
      let own = uses_of (node_at C k) in
      let e : concat_map uses_of (take (suc k) C) ≡ front ++ own = ap (concat_map uses_of) (take-suc C k (node 0 0 0 0) (omega arith)) ∙ concat_append uses_of (take k C) (node_at C k ∷ []) ∙ ap (λ (l : List ℕ). front ++ l) (append-nil own) in
      in_both {P = λ j. suc j < suc k} front (λ j q. before j (uses_low k (omega arith) j q)) (λ j q. here j (low_uses (low_at k (omega arith)) j q)) i (subst (λ (l : List ℕ). In i l) e p)
    where
      before : (j : ℕ) → suc j < k → suc j < suc k
      before j l = omega arith

      here : (j : ℕ) → j < k → suc j < suc k
      here j l = omega arith

  -- THE QUERY HAS NO MORE NODES than the table
  pub root_size : 0 < length C → is_condition (node_at C (length C - 1)).kind ≡ false → ((q : ℕ) → q < length C - 1 → count q (uses C) ≡ 1) → query_nodes (query_at C (length C - 1)) ≤ length C
  unfolding sum_to
  root_size rooted root once =
      let r = length C - 1 in
      let e : length C ≡ suc r = omega arith in
      let all : sum_to size (length C) ≡ length C + sum_of size (uses C) = total (length C) (omega arith) ∙ ap (λ (l : List Node). length C + sum_of size (concat_map uses_of l)) (take-length C) in
      let last : sum_to size (length C) ≡ sum_to size r + size r = ap (sum_to size) e in
      let rest : sum_of size (uses C) ≤ sum_to size r =
      sum_once size r (uses C)
      (λ m p. omega (arith, uses_low (length C) (omega arith) m (subst (λ (l : List Node). In m (concat_map uses_of l)) (sym (take-length C)) p)))
      (λ q l. omega (arith, once q l)) in
      omega (arith, all, last, rest, size_query r root)
