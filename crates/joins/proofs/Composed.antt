-- The walk of a query from the walks of its parts, as rules on the type table.
-- Assumes nothing.
use mathlib.Core.Path.{◌≡◌, refl}
use mathlib.Core.List.{◌∷◌}
use Prim.Native.Nat.{ℕ}
use Rattle.meaning.specs.Base as Base
use Rattle.meaning.specs.Base.{Out, ok, refused}
use Rattle.meaning.specs.Types as Types
use Rattle.meaning.specs.Types.{Table, Defs}
use Rattle.meaning.specs.Shapes.{shape, quant}
use Rattle.meaning.specs.Records as Records
use Rattle.meaning.specs.Queries as Queries
use Rattle.meaning.specs.Queries.{Query, Cond}
use Rattle.meaning.specs.Rules.{after, from_out, Rule, append, prime, times}
use Rattle.meaning.specs.Typing.{Scope, State, Walk, leaving, on_types, unbound, type_cond, for_rule, type_of}
use Rattle.leaves.specs.Walk.{tabled, walked}
use Rattle.leaves.proofs.Steps.{tabled_leaving}
use Rattle.joins.specs.Joins.{sourced, loop}

-- a step after another
step : (x : Out (State × ℕ)) (f : ℕ → Walk ℕ) (h : ℕ → Rule ℕ) → ((e : ℕ) (t : Table) → tabled (f e (record { types = t })) ≡ h e t) → tabled (after x f) ≡ after (tabled x) h
step (ok r) f h k = k r.1 r.0.types
step (refused n place) f h k = refl

-- a rule on the table after a step
then : (x : Out (State × ℕ)) (h : ℕ → Rule ℕ) → tabled (after x (λ e. on_types (h e))) ≡ after (tabled x) h
then x h = step x (λ e. on_types (h e)) h (λ e t. tabled_leaving (record { types = t }) (h e t))

module _ (room : ℕ) (D : Defs) (n : ℕ) (g : Scope) (t : Table) where
  pub walked_element : (l : ℕ) (q : Query) → walked room D (Queries.element n l q) g t ≡ after (walked room D q g t) (λ x. append room n (Types.element l x))
  unfolding walked type_of
  walked_element l q = then (type_of room D q g (record { types = t })) (λ x. append room n (Types.element l x))

  pub walked_pair : (p q : Query) → walked room D (Queries.pair n p q) g t ≡ after (walked room D p g t) (λ x t. after (walked room D q g t) (λ y. append room n (Types.pair x y)))
  unfolding walked type_of
  walked_pair p q =
      step (type_of room D p g (record { types = t })) (λ x s. after (type_of room D q g s) (λ y. on_types (append room n (Types.pair x y)))) (λ x t. after (walked room D q g t) (λ y. append room n (Types.pair x y)))
      (λ x t. then (type_of room D q g (record { types = t })) (λ y. append room n (Types.pair x y)))

  -- when its condition's variables are in scope, and when one is not
  pub walked_when : (p : Cond) (q : Query) → type_cond p g ≡ ok tt → walked room D (Queries.when n p q) g t ≡ after (walked room D q g t) (λ x. append room n (Types.opt x))
  unfolding walked type_of
  walked_when p q c = rw c (then (type_of room D q g (record { types = t })) (λ x. append room n (Types.opt x)))

  pub walked_when_not : {m place : ℕ} (p : Cond) (q : Query) → type_cond p g ≡ refused m place → walked room D (Queries.when n p q) g t ≡ refused m place
  unfolding walked type_of
  walked_when_not p q c = rw c

  -- LET AND FOR
  freed : (x : Out (State × ℕ)) (o : Out (Unit {0})) (f : ℕ → Walk ℕ) (h : ℕ → Rule ℕ) → ((e : ℕ) (t : Table) → tabled (f e (record { types = t })) ≡ h e t)
      → tabled (after x (λ e s. after (from_out o s) (λ _. f e))) ≡ after (after (tabled x) (λ e. from_out (Base.◌>>=◌ o λ _. ok e))) h
  freed (ok r) (ok u) f h k = k r.1 r.0.types
  freed (ok r) (refused m place) f h k = refl
  freed (refused m place) o f h k = refl

  pub walked_let : (v : ℕ) (p q : Query) → walked room D (Queries.let_in n v p q) g t ≡ after (sourced room D n g v p t) (λ e. walked room D q ((v, Records.forest e) ∷ g))
  unfolding walked type_of sourced
  walked_let v p q =
      freed (type_of room D p g (record { types = t })) (unbound n g v) (λ e. type_of room D q ((v, Records.forest e) ∷ g)) (λ e. walked room D q ((v, Records.forest e) ∷ g)) (λ e t. refl)

  primed : (x : Out (Table × ℕ)) (s : State) (f : ℕ → Walk ℕ) (h : ℕ → Rule ℕ) → ((e : ℕ) (t : Table) → tabled (f e (record { types = t })) ≡ h e t) → tabled (after (leaving s x) f) ≡ after x h
  primed (ok r) s f h k = k r.1 r.0
  primed (refused m place) s f h k = refl

  for_loop : (v : ℕ) (q : Query) (e : ℕ) (t : Table) → tabled (for_rule room D n e (λ x. type_of room D q ((v, Records.tree x) ∷ g)) (record { types = t })) ≡ loop room D n g v q e t
  unfolding walked for_rule
  for_loop v q e t =
      primed (prime room n (shape D t e) t) (record { types = t }) (λ x s. after (type_of room D q ((v, Records.tree x) ∷ g) s) (λ u. on_types (times room n u (quant (shape D t e))))) (λ x s. after (walked room D q ((v, Records.tree x) ∷ g) s) (λ u. times room n u (quant (shape D t e))))
      (λ x s. then (type_of room D q ((v, Records.tree x) ∷ g) (record { types = s })) (λ u. times room n u (quant (shape D t e))))

  pub walked_for : (v : ℕ) (p q : Query) → walked room D (Queries.for n v p q) g t ≡ after (sourced room D n g v p t) (loop room D n g v q)
  unfolding walked type_of sourced
  walked_for v p q =
      freed (type_of room D p g (record { types = t })) (unbound n g v) (λ e. for_rule room D n e (λ x. type_of room D q ((v, Records.tree x) ∷ g))) (loop room D n g v q) (for_loop v q)
