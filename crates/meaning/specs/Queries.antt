-- Queries as terms (S figure 3). Each keeps the number of its node, for refusals.
-- Assumes nothing.
use Rattle.std.specs.Prelude.{ℕ, zero, suc, List, [], ◌∷◌, length}
use Rattle.meaning.specs.Base.{find, otherwise}
use Rattle.meaning.specs.Kinds
use Rattle.meaning.specs.Records.{Node, node_at}

pub data Cond : Type 0 where
  always never : ℕ → Cond
  equal : ℕ → ℕ → ℕ → Cond
  empty : ℕ → ℕ → Cond
  or : ℕ → Cond → Cond → Cond
  not : ℕ → Cond → Cond

pub data Query : Type 0 where
  nothing : ℕ → Query
  text : ℕ → ℕ → Query
  element : ℕ → ℕ → Query → Query
  pair : ℕ → Query → Query → Query
  variable : ℕ → ℕ → Query
  child dos : ℕ → ℕ → ℕ → Query
  for let_in : ℕ → ℕ → Query → Query → Query
  when : ℕ → Cond → Query → Query

-- the row of a table that has this number; a row waits until it is chosen
abbrev pub choose : {A : Type 0} → ℕ → List (ℕ × (Unit {0} → A)) → A → A
choose k rows d = otherwise (λ _. d) (find k rows) tt

-- the condition at node n, which is x, from those at the nodes that x names
unfoldable pub expand_cond : ℕ → (ℕ → Cond) → Node → Cond
expand_cond n f x =
    choose x.kind
    ((Kinds.condition·true, λ _. always n)
    ∷ (Kinds.condition·false, λ _. never n)
    ∷ (Kinds.condition·equal, λ _. equal n x.a x.b)
    ∷ (Kinds.condition·empty, λ _. empty n x.a)
    ∷ (Kinds.condition·or, λ _. or n (f x.a) (f x.b))
    ∷ (Kinds.condition·not, λ _. not n (f x.a))
    ∷ [])
    (never n)

-- the query at node n, which is x
unfoldable pub expand_query : ℕ → (ℕ → Cond) → (ℕ → Query) → Node → Query
expand_query n p q x =
    choose x.kind
    ((Kinds.query·text, λ _. text n x.a)
    ∷ (Kinds.query·element, λ _. element n x.a (q x.b))
    ∷ (Kinds.query·pair, λ _. pair n (q x.a) (q x.b))
    ∷ (Kinds.query·variable, λ _. variable n x.a)
    ∷ (Kinds.query·child, λ _. child n x.a x.b)
    ∷ (Kinds.query·dos, λ _. dos n x.a x.b)
    ∷ (Kinds.query·for, λ _. for n x.a (q x.b) (q x.c))
    ∷ (Kinds.query·let, λ _. let_in n x.a (q x.b) (q x.c))
    ∷ (Kinds.query·when, λ _. when n (p x.a) (q x.b))
    ∷ [])
    (nothing n)

-- read k deep
unfoldable pub cond_in : ℕ → List Node → ℕ → Cond
cond_in zero code n = never n
cond_in (suc k) code n = expand_cond n (λ i. cond_in k code i) (node_at code n)

unfoldable pub query_in : ℕ → List Node → ℕ → Query
query_in zero code n = nothing n
query_in (suc k) code n = expand_query n (λ i. cond_in k code i) (λ i. query_in k code i) (node_at code n)

-- children have lower numbers, so no term is deeper than there are nodes (`query_law`)
abbrev pub cond_at : List Node → ℕ → Cond
cond_at code n = cond_in (length code) code n

abbrev pub query_at : List Node → ℕ → Query
query_at code n = query_in (length code) code n
