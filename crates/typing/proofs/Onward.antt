-- A query by its first part: its walk is what is left of it when that part has answered. And steps down.
-- Assumes nothing.
use Rattle.std.specs.Prelude as Std
use Rattle.std.specs.Prelude.{Result}
use mathlib.Core.Logic.{◌⊎◌, inl, inr}
use mathlib.Core.Path.{◌≡◌, refl, sym, ap, subst, ◌∙◌}
use mathlib.Core.List.{List}
use Prim.Native.Nat.{ℕ, suc, ◌+◌, ◌*◌, ◌≤◌, ◌<◌}
use native.Mathlib.Omega.{arith}
use lib.ListN.{length}
use Rattle.meaning.specs.Base.{Out, ok, refused}
use Rattle.meaning.specs.Types.{Table, Defs}
use Rattle.meaning.specs.Records.{Node, node_at}
use Rattle.meaning.specs.Queries as Queries
use Rattle.meaning.specs.Queries.{Query, Cond, query_at, cond_at}
use Rattle.meaning.specs.Typing as Typing
use Rattle.meaning.specs.Typing.{type_cond}
use Rattle.refusals.specs.declared.Refusal.{Refusal}
use Rattle.refusals.specs.Says.{number_of}
use Rattle.uses.specs.Counts.{Lowers}
use Rattle.scope.specs.declared.Scope.{Scope}
use Rattle.scope.specs.Shows.{Shows}
use Rattle.conds.specs.Says.{Answers}
use Rattle.grow.specs.declared.Made.{Made}
use Rattle.leaves.specs.Walk.{walked, Walks}
use Rattle.leaves.proofs.Steps.{left_refused}
use Rattle.queries.specs.Says.{query_of, Says}
use Rattle.queries.specs.declared.Query as Nodes
use Rattle.queries.proofs.Named.{query_is, element_low, pair_low, for_low, let_low, when_low}
use Rattle.joins.specs.Joins.{sourced}
use Rattle.joins.proofs.Composed.{walked_element, walked_pair, walked_when, walked_when_not, walked_let, walked_for}
use Rattle.typing.specs.declared.Next.{Next}
use Rattle.typing.specs.Walking as Walking
use Rattle.typing.specs.Walking.{onward, size, cost, rose, begun, Goes}

pub size_some : (q : Query) → 1 ≤ size q
unfolding size
size_some (Queries.nothing n) = omega arith
size_some (Queries.text n t) = omega arith
size_some (Queries.element n l q) = omega arith
size_some (Queries.pair n p q) = omega arith
size_some (Queries.variable n v) = omega arith
size_some (Queries.child n v w) = omega arith
size_some (Queries.dos n v w) = omega arith
size_some (Queries.for n v p q) = omega arith
size_some (Queries.let_in n v p q) = omega arith
size_some (Queries.when n p q) = omega arith

-- p is the part of x that comes first, in a scope
pub record First (D : Defs) (s : Scope) (x p : Query) : Type 0 where
  pub less : cost x 0 + 3 * size p < 3 * size x
  pub law : (room : ℕ) (g : Typing.Scope) (t : Table) → Shows s g → walked room D x g t ≡ onward room D x 0 g (walked room D p g t)

module _ (D : Defs) (s : Scope) (n : ℕ) where
  pub element_first : (l : ℕ) (q : Query) → First D s (Queries.element n l q) q
  unfolding onward size cost
  element_first l q = record { less = omega arith; law = λ room g t h. walked_element room D n g t l q }

  pub pair_first : (p q : Query) → First D s (Queries.pair n p q) p
  unfolding onward size cost
  pair_first p q = record { less = omega arith; law = λ room g t h. walked_pair room D n g t p q }

  pub let_first : (v : ℕ) (p q : Query) → First D s (Queries.let_in n v p q) p
  unfolding onward size cost sourced
  let_first v p q = record { less = omega arith; law = λ room g t h. walked_let room D n g t v p q }

  pub for_first : (v : ℕ) (p q : Query) → First D s (Queries.for n v p q) p
  unfolding onward size cost sourced
  for_first v p q = record { less = omega arith; law = λ room g t h. walked_for room D n g t v p q }

  -- where its condition's variables are in scope
  pub when_first : (p : Cond) (q : Query) → ((g : Typing.Scope) → Shows s g → type_cond p g ≡ ok tt) → First D s (Queries.when n p q) q
  unfolding onward size cost
  when_first p q c = record { less = omega arith; law = λ room g t h. walked_when room D n g t p q (c g h) }

-- STEPS DOWN
module _ {code : List Node} {n : ℕ} (lowers : Lowers code) (low : n < length code) {c : Nodes.Query} (says : Says n (node_at code n) c) where
  abbrev pub query : ℕ → Query
  query i = query_at code i

  abbrev pub cond : ℕ → Cond
  cond i = cond_at code i

  -- the query at the node by what the node says
  pub asked : (x : Nodes.Query) → c ≡ x → query_of n cond query x ≡ query n
  asked x p = sym (query_is code lowers low says ∙ ap (query_of n cond query) p)

  module _ {D : Defs} {ws cs st : List ℕ} {count top : ℕ} {s : Scope} where
    -- a node that its walk makes, or refuses
    pub goes_done : {us ds : List ℕ} (x : Nodes.Query) → c ≡ x → (w : Result Made Refusal) → Walks D ws us cs ds count (query_of n cond query x) s w → Goes D code ws us cs ds count s n st st top (rose w top)
    goes_done {us} {ds} x p w k = Walking.done w (subst (λ (q : Query). Walks D ws us cs ds count q s w) (asked x p) k) refl refl

    module _ {st' : List ℕ} {to : Next} where
      goes_first : (x : Nodes.Query) → c ≡ x → (q : ℕ) → q < n → First D s (query_of n cond query x) (query q) → to ≡ Next.Down q count (suc top) → st' ≡ begun st top n → Goes D code ws ws cs cs count s n st st' top (Std.Ok to)
      goes_first x p q l f e k =
          let g = subst (λ (y : Query). First D s y (query q)) (asked x p) f in
          Walking.first q l refl refl k (ap Std.Ok e) g.less g.law

      -- one with parts, of which p comes first
      pub goes_part : {p : ℕ} → ((l : ℕ) × (c ≡ Nodes.TheVariants.Element l p)) ⊎ (((q : ℕ) × (c ≡ Nodes.TheVariants.Pair p q)) ⊎ (((v : ℕ) × (q : ℕ) × (c ≡ Nodes.TheVariants.For v p q)) ⊎ ((v : ℕ) × (q : ℕ) × (c ≡ Nodes.TheVariants.Let v p q))))
          → to ≡ Next.Down p count (suc top) → st' ≡ begun st top n → Goes D code ws ws cs cs count s n st st' top (Std.Ok to)
      goes_part {p} (inl (l, z)) =
          goes_first (Nodes.TheVariants.Element l p) z p (element_low code lowers low says z).2 (element_first D s n l (query p))
      goes_part {p} (inr (inl (q, z))) =
          goes_first (Nodes.TheVariants.Pair p q) z p (pair_low code lowers low says z).0 (pair_first D s n (query p) (query q))
      goes_part {p} (inr (inr (inl (v, q, z)))) =
          goes_first (Nodes.TheVariants.For v p q) z p (for_low code lowers low says z).1 (for_first D s n v (query p) (query q))
      goes_part {p} (inr (inr (inr (v, q, z)))) =
          goes_first (Nodes.TheVariants.Let v p q) z p (let_low code lowers low says z).1 (let_first D s n v (query p) (query q))

  -- when, by its condition at node j
  module _ {i q j : ℕ} (z : c ≡ Nodes.TheVariants.When i q) (e : j ≡ i) where
    pub when_in : j < length code
    when_in = omega (arith, (when_low code lowers low says z).0, low)

    told : {s : Scope} {o : Out (Unit {0})} → Answers s o (λ g. type_cond (cond j) g) → (g : Typing.Scope) → Shows s g → type_cond (cond i) g ≡ o
    told a g h = sym (ap (λ (k : ℕ). type_cond (cond k) g) e) ∙ sym (a.is g h)

    module _ {D : Defs} {ws cs st : List ℕ} {count top : ℕ} {s : Scope} where
      pub when_stops : {r : Refusal} → Answers s (refused (number_of r.reason) r.place) (λ g. type_cond (cond j) g) → Goes D code ws ws cs cs count s n st st top (Std.Err r)
      when_stops {r} a =
          goes_done (Nodes.TheVariants.When i q) z (Std.Err r) (record { is = λ g h. left_refused (walked_when_not _ D n g _ (cond i) (query q) (told a g h)) })

      pub when_passes : {st' : List ℕ} {to : Next} → Answers s (ok tt) (λ g. type_cond (cond j) g) → to ≡ Next.Down q count (suc top) → st' ≡ begun st top n → Goes D code ws ws cs cs count s n st st' top (Std.Ok to)
      when_passes a = goes_first (Nodes.TheVariants.When i q) z q (when_low code lowers low says z).1 (when_first D s n (cond i) (query q) (told a))
