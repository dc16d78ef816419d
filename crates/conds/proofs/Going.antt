-- Conditions over their nodes: the condition at a node by what its node says, and the walk that goes on into one of its parts.
-- Assumes nothing.
use mathlib.Core.Path.{◌≡◌, refl, sym, ap, subst, ◌∙◌}
use mathlib.Core.Logic.{◌⊎◌, inl, inr}
use mathlib.Core.List.{List}
use Prim.Native.Nat.{ℕ, ◌≤◌, ◌<◌}
use native.Mathlib.Omega.{arith}
use lib.ListN.{length}
use Rattle.meaning.specs.Base.{Out, ok, refused, ◌>>=◌, find}
use Rattle.meaning.specs.Records as Records
use Rattle.meaning.specs.Records.{Node, node, node_at}
use Rattle.meaning.specs.Formed.{NodeLow, query·empty, query·text, query·element, query·pair, query·variable, query·child, query·dos, query·for, query·let, query·when, condition·true, condition·false, condition·equal, condition·empty, condition·or, condition·not}
use Rattle.meaning.specs.Queries as Queries
use Rattle.meaning.specs.Queries.{expand_cond, cond_at}
use Rattle.meaning.specs.Typing as Typing
use Rattle.meaning.specs.Typing.{lookup, type_cond}
use Rattle.meaning.proofs.Lists.{at_is}
use Rattle.meaning.proofs.Codes.{cond_law}
use Rattle.scope.specs.Shows.{Shows}
use Rattle.scope.specs.declared.Scope.{Scope}
use Rattle.uses.specs.Counts.{Lowers}
use Rattle.conds.specs.Says.{cond_of, Says, Answers}
use Rattle.conds.specs.declared.Cond.{Cond}
use Rattle.conds.proofs.Judging.{first_stops, first_passes}

-- WHAT A CONDITION NAMES. The number of its node
abbrev pub top : Queries.Cond → ℕ
top (Queries.always n) = n
top (Queries.never n) = n
top (Queries.equal n v w) = n
top (Queries.empty n v) = n
top (Queries.or n p q) = n
top (Queries.not n p) = n

-- variables up to 63, and conditions at nodes below n
abbrev pub LowAt : ℕ → Queries.Cond → Type 0
LowAt n (Queries.always m) = Unit {0}
LowAt n (Queries.never m) = Unit {0}
LowAt n (Queries.equal m v w) = (v ≤ 63) × (w ≤ 63)
LowAt n (Queries.empty m v) = v ≤ 63
LowAt n (Queries.or m p q) = (top p < n) × (top q < n)
LowAt n (Queries.not m p) = top p < n

low_expand : {code : List Node} {n : ℕ} {x : Node} → NodeLow code n x → LowAt n (expand_cond n Queries.always x)
unfolding expand_cond find
low_expand query·empty = tt
low_expand query·text = tt
low_expand (query·element h k q) = tt
low_expand (query·pair p q) = tt
low_expand (query·variable v) = tt
low_expand (query·child v) = tt
low_expand (query·dos v) = tt
low_expand (query·for v p q) = tt
low_expand (query·let v p q) = tt
low_expand (query·when p q) = tt
low_expand condition·true = tt
low_expand condition·false = tt
low_expand (condition·equal v w) = (v, w)
low_expand (condition·empty v) = v
low_expand (condition·or p q) = (p.low, q.low)
low_expand (condition·not p) = p.low

module _ (C : List Node) where
  -- THE WALK: what is left to judge at node `at` is all that there was at node n
  pub record Going (s : Scope) (n at : ℕ) : Type 0 where
    pub to : at ≤ n
    pub rest : (g : Typing.Scope) → Shows s g → type_cond (cond_at C at) g ≡ type_cond (cond_at C n) g

  pub going_none : (s : Scope) (n : ℕ) → Going s n n
  going_none s n = record { to = omega arith; rest = λ g h. refl }

  -- ONE NODE
  module _ (lowers : Lowers C) {n : ℕ} (l : n < length C) {c : Cond} (s : Says n (node_at C n) c) where
    -- the condition at it, by what the node says
    pub cond_is : cond_at C n ≡ cond_of n (cond_at C) c
    cond_is = cond_law C lowers.low n l ∙ sym (s.is (cond_at C))

    -- what it names
    pub cond_low : LowAt n (cond_of n Queries.always c)
    cond_low = subst (LowAt n) (sym (s.is Queries.always)) (low_expand (lowers.low n (node_at C n) (at_is C n (node 0 0 0 0) l)))

    pub equal_low : {v w : ℕ} → c ≡ Cond.Equal v w → (v ≤ 63) × (w ≤ 63)
    equal_low e = rw e at cond_low

    pub empty_low : {v : ℕ} → c ≡ Cond.Empty v → v ≤ 63
    empty_low e = rw e at cond_low

    pub or_low : {p q : ℕ} → c ≡ Cond.Or p q → (p < n) × (q < n)
    or_low e = rw e at cond_low

    pub not_low : {p : ℕ} → c ≡ Cond.Not p → p < n
    not_low e = rw e at cond_low

    typed_is : (d : Cond) → c ≡ d → (g : Typing.Scope) → type_cond (cond_at C n) g ≡ type_cond (cond_of n (cond_at C) d) g
    typed_is d e g = ap (λ (p : Queries.Cond). type_cond p g) (cond_is ∙ ap (cond_of n (cond_at C)) e)

  -- A TURN of the walk of node m, at node n
  module _ {scope : Scope} {m n : ℕ} (lowers : Lowers C) (inside : m < length C) (going : Going scope m n) where
    turn_low : n < length C
    turn_low = omega (arith, going.to)

    module _ {c : Cond} (s : Says n (node_at C n) c) where
      done : (d : Cond) → c ≡ d → {told : Out (Unit {0})} → Answers scope told (λ g. type_cond (cond_of n (cond_at C) d) g) → Answers scope told (λ g. type_cond (cond_at C m) g)
      done d e j = record { is = λ g h. j.is g h ∙ sym (typed_is lowers turn_low s d e g) ∙ going.rest g h }

      -- a condition with no part is judged
      pub plain_done : (c ≡ Cond.True) ⊎ (c ≡ Cond.False) → Answers scope (ok tt) (λ g. type_cond (cond_at C m) g)
      unfolding type_cond
      plain_done (inl e) = done Cond.True e (record { is = λ g h. refl })
      plain_done (inr e) = done Cond.False e (record { is = λ g h. refl })

      module _ {v w : ℕ} (e : c ≡ Cond.Equal v w) where
        pub equal_in : (v ≤ 63) × (w ≤ 63)
        equal_in = equal_low lowers turn_low s e

        pub equal_stops : {k place : ℕ} → Answers scope (refused k place) (λ g. lookup n g v) → Answers scope (refused k place) (λ g. type_cond (cond_at C m) g)
        unfolding type_cond
        equal_stops a = done (Cond.Equal v w) e (first_stops (λ x g. lookup n g w >>= λ y. ok tt) a)

        module _ {x : Records.Var} (a : Answers scope (ok x) (λ g. lookup n g v)) where
          pub equal_stops_then : {k place : ℕ} → Answers scope (refused k place) (λ g. lookup n g w) → Answers scope (refused k place) (λ g. type_cond (cond_at C m) g)
          unfolding type_cond
          equal_stops_then b = done (Cond.Equal v w) e (first_passes (λ x g. lookup n g w >>= λ y. ok tt) a (first_stops (λ y g. ok tt) b))

          pub equal_done : {y : Records.Var} → Answers scope (ok y) (λ g. lookup n g w) → Answers scope (ok tt) (λ g. type_cond (cond_at C m) g)
          unfolding type_cond
          equal_done b =
              done (Cond.Equal v w) e (first_passes (λ x g. lookup n g w >>= λ y. ok tt) a (first_passes (λ y g. ok tt) b (record { is = λ g h. refl })))

      module _ {v : ℕ} (e : c ≡ Cond.Empty v) where
        pub empty_in : v ≤ 63
        empty_in = empty_low lowers turn_low s e

        pub empty_stops : {k place : ℕ} → Answers scope (refused k place) (λ g. lookup n g v) → Answers scope (refused k place) (λ g. type_cond (cond_at C m) g)
        unfolding type_cond
        empty_stops a = done (Cond.Empty v) e (first_stops (λ x g. ok tt) a)

        pub empty_done : {x : Records.Var} → Answers scope (ok x) (λ g. lookup n g v) → Answers scope (ok tt) (λ g. type_cond (cond_at C m) g)
        unfolding type_cond
        empty_done a = done (Cond.Empty v) e (first_passes (λ x g. ok tt) a (record { is = λ g h. refl }))

      -- not: on to its part
      module _ {p w : ℕ} (e : c ≡ Cond.Not p) (k : w ≡ p) where
        pub not_falls : w < n
        not_falls = rw k (not_low lowers turn_low s e)

        pub not_going : Going scope m w
        unfolding type_cond
        not_going =
            record {
              to = omega (arith, not_falls, going.to);
              rest = λ g h.
                  ap (λ (i : ℕ). type_cond (cond_at C i) g) k
                  ∙ sym (typed_is lowers turn_low s (Cond.Not p) e g)
                  ∙ going.rest g h;
            }

      -- or: its left part is judged; a refusal is the whole's, else on to its right part
      module _ {p q : ℕ} (e : c ≡ Cond.Or p q) {w : ℕ} (k : w ≡ p) where
        pub left_low : w < n
        left_low = rw k (or_low lowers turn_low s e).0

        pub or_stops : {i place : ℕ} → Answers scope (refused i place) (λ g. type_cond (cond_at C w) g) → Answers scope (refused i place) (λ g. type_cond (cond_at C m) g)
        unfolding type_cond
        or_stops a = done (Cond.Or p q) e (first_stops (λ x g. type_cond (cond_at C q) g) (rw k at a))

        pub or_going : {u : ℕ} → Answers scope (ok tt) (λ g. type_cond (cond_at C w) g) → u ≡ q → Going scope m u
        unfolding type_cond
        or_going {u} a r =
            record {
              to = omega (arith, (or_low lowers turn_low s e).1, going.to);
              rest = λ g h.
                  ap (λ (i : ℕ). type_cond (cond_at C i) g) r
                  ∙ ap (λ (o : Out (Unit {0})). o >>= λ x. type_cond (cond_at C q) g) (a.is g h ∙ ap (λ (i : ℕ). type_cond (cond_at C i) g) k)
                  ∙ sym (typed_is lowers turn_low s (Cond.Or p q) e g)
                  ∙ going.rest g h;
            }

        pub right_falls : {u : ℕ} → u ≡ q → u < n
        right_falls r = rw r (or_low lowers turn_low s e).1
