-- Evaluation in a work table with room: it gives what the query means or refuses 21 at a node of the query, what it leaves stands inside the table,
-- more room changes no answer, and some room is enough.
-- Assumes nothing.
use mathlib.Core.Path.{◌≡◌, refl, ap}
use mathlib.Core.Bool.{Bool, true, false}
use mathlib.Core.List.{◌∷◌}
use Prim.Native.Nat.{ℕ, suc, ◌+◌, ◌≤◌}
use native.Mathlib.Omega.{arith}
use lib.Dec.{leb, ltb}
use borrow.Author.Tests.{leb-true, le-leb, ltb-true, lt-ltb}
use Rattle.meaning.specs.Base.{Out, ok, ◌>>=◌, require}
use Rattle.meaning.specs.Forests.{Forest, end, leaf, tree, join, size, keep, select, children, below, over}
use Rattle.meaning.specs.Queries as Queries
use Rattle.meaning.specs.Queries.{Query}
use Rattle.meaning.specs.Running.{Env, value_of, holds, meaning_of, written, for_each, eval}
use Rattle.meaning.proofs.Ends.{Ends, gives, Any, Anyhow, ends_bind, ends_map, ends_require, Keeps, kept, keeps_bind, keeps_require, ends_elim}
use Rattle.meaning.proofs.Nodes.{InQuery, everywhere}
use Rattle.meaning.proofs.Forests.{size_join}

-- refusal 21 at a place with a property
abbrev pub Full : (ℕ → Type 0) → ℕ → ℕ → Type 0
Full P n p = (n ≡ 21) × P p

-- WHAT IT GIVES
module _ {R : ℕ → ℕ → Type 0} where
  written_is : (room n at : ℕ) (f : Forest) → R 21 n → Ends (λ g. g ≡ f) R (written room n at f)
  written_is room n at f r = ends_bind (ends_require (leb (at + size f) room) 21 n r) λ _ h. gives refl

  each_is : (body : Forest → ℕ → Out Forest) (c : Forest → Forest) → ((x : Forest) (here : ℕ) → Ends (λ g. g ≡ c x) R (body x here)) → (f : Forest) (at : ℕ) → Ends (λ g. g ≡ over c f) R (for_each body f at)
  unfolding for_each over
  each_is body c h end at = gives refl
  each_is body c h (leaf t r) at = ends_bind (h (leaf t end) at) λ f p. ends_bind (each_is body c h r (at + size f)) λ g q. gives (cc)
  each_is body c h (tree l i r) at = ends_bind (h (tree l i end) at) λ f p. ends_bind (each_is body c h r (at + size f)) λ g q. gives (cc)

pub eval_ends : (P : ℕ → Type 0) (room : ℕ) (q : Query) (r : Env) (at : ℕ) → InQuery P q → Ends (λ f. f ≡ meaning_of q r) (Full P) (eval room q r at)
unfolding InQuery meaning_of eval
eval_ends P room (Queries.nothing n) r at h = gives refl
eval_ends P room (Queries.text n t) r at h = written_is room n at (leaf t end) (refl, h)
eval_ends P room (Queries.element n l q) r at h =
    ends_bind (ends_require (ltb at room) 21 n (refl, h.0)) λ _ _. ends_bind (eval_ends P room q r (at + 1) h.1) λ f e. gives (ap (λ x. tree l x end) e)
eval_ends P room (Queries.pair n p q) r at h =
    ends_bind (eval_ends P room p r at h.1) λ f d. ends_bind (eval_ends P room q r (at + size f) h.2) λ g e. gives (cc)
eval_ends P room (Queries.variable n v) r at h = written_is room n at (value_of r v) (refl, h)
eval_ends P room (Queries.child n v w) r at h = written_is room n at (select w (children (value_of r v))) (refl, h)
eval_ends P room (Queries.dos n v w) r at h = written_is room n at (select w (below (value_of r v))) (refl, h)
eval_ends P room (Queries.for n v p q) r at h =
    ends_bind (eval_ends P room p r at h.1) λ f d.
    rw (← d) (each_is _ (λ x. meaning_of q ((v, x) ∷ r)) (λ x here. eval_ends P room q ((v, x) ∷ r) here h.2) f (at + size f))
eval_ends P room (Queries.let_in n v p q) r at h =
    ends_bind (eval_ends P room p r at h.1) λ f d. rw (← d) (eval_ends P room q ((v, f) ∷ r) (at + size f) h.2)
eval_ends P room (Queries.when n p q) r at h = ends_elim (holds p r) (λ e. rw e (eval_ends P room q r at h.2)) (λ e. rw e (gives refl))

-- what all numbers have, the nodes of a query have
pub eval_means : (room : ℕ) (q : Query) (r : Env) (at : ℕ) → Ends (λ f. f ≡ meaning_of q r) (Full Any) (eval room q r at)
eval_means room q r at = eval_ends Any room q r at (everywhere Any (λ n. tt) q)

-- WHERE IT STANDS: a forest left at a place ends inside the work table
abbrev pub Stands : ℕ → ℕ → Out Forest → Type 0
Stands room at o = Ends (λ f. at + size f ≤ room) Anyhow o

module _ {room : ℕ} where
  written_stands : (n at : ℕ) (f : Forest) → Stands room at (written room n at f)
  written_stands n at f = ends_bind (ends_require (leb (at + size f) room) 21 n tt) λ _ h. gives (leb-true (at + size f) room h)

  -- one forest behind another
  stands_join : (at : ℕ) (f : Forest) {o : Out Forest} → Stands room (at + size f) o → Stands room at (o >>= λ g. ok (join f g))
  stands_join at f h = ends_bind h λ g k. gives {a = join f g} (omega (arith, size_join f g))

  each_stands : {body : Forest → ℕ → Out Forest} → ((x : Forest) (here : ℕ) → here ≤ room → Stands room here (body x here)) → (f : Forest) (at : ℕ) → at ≤ room → Stands room at (for_each body f at)
  unfolding for_each size
  each_stands h end at low = gives {a = end} (omega arith)
  each_stands h (leaf t r) at low = ends_bind (h (leaf t end) at low) λ f k. stands_join at f (each_stands h r (at + size f) k)
  each_stands h (tree l i r) at low = ends_bind (h (tree l i end) at low) λ f k. stands_join at f (each_stands h r (at + size f) k)

  pub eval_stands : (q : Query) (r : Env) (at : ℕ) → at ≤ room → Stands room at (eval room q r at)
  unfolding eval size
  eval_stands (Queries.nothing n) r at low = gives {a = end} (omega arith)
  eval_stands (Queries.text n t) r at low = written_stands n at (leaf t end)
  eval_stands (Queries.element n l q) r at low =
      ends_bind (ends_require (ltb at room) 21 n tt) λ _ h. ends_bind (eval_stands q r (at + 1) (omega (arith, ltb-true at room h))) λ f k. gives {a = tree l f end} (omega arith)
  eval_stands (Queries.pair n p q) r at low = ends_bind (eval_stands p r at low) λ f k. stands_join at f (eval_stands q r (at + size f) k)
  eval_stands (Queries.variable n v) r at low = written_stands n at (value_of r v)
  eval_stands (Queries.child n v w) r at low = written_stands n at (select w (children (value_of r v)))
  eval_stands (Queries.dos n v w) r at low = written_stands n at (select w (below (value_of r v)))
  eval_stands (Queries.for n v p q) r at low =
      ends_bind (eval_stands p r at low) λ f k. ends_map (each_stands (λ x here l. eval_stands q ((v, x) ∷ r) here l) f (at + size f) k) λ g j. omega arith
  eval_stands (Queries.let_in n v p q) r at low = ends_bind (eval_stands p r at low) λ f k. ends_map (eval_stands q ((v, f) ∷ r) (at + size f) k) λ g j. omega arith
  eval_stands (Queries.when n p q) r at low = ends_elim (holds p r) (λ _. eval_stands q r at low) (λ _. gives {a = end} (omega arith))

-- MORE ROOM
each_keeps : {b c : Forest → ℕ → Out Forest} → ((x : Forest) (here : ℕ) → Keeps (b x here) (c x here)) → (f : Forest) (at : ℕ) → Keeps (for_each b f at) (for_each c f at)
unfolding for_each
each_keeps h end at = kept
each_keeps h (leaf t r) at = keeps_bind (h (leaf t end) at) λ f. keeps_bind (each_keeps h r (at + size f)) λ g. kept
each_keeps h (tree l i r) at = keeps_bind (h (tree l i end) at) λ f. keeps_bind (each_keeps h r (at + size f)) λ g. kept

module _ {room more : ℕ} (wider : room ≤ more) where
  written_keeps : (n at : ℕ) (f : Forest) → Keeps (written room n at f) (written more n at f)
  written_keeps n at f = keeps_bind (keeps_require (leb (at + size f) room) (leb (at + size f) more) 21 n 21 n (λ h. le-leb (at + size f) more (omega (arith, leb-true (at + size f) room h)))) λ _. kept

  pub eval_keeps : (q : Query) (r : Env) (at : ℕ) → Keeps (eval room q r at) (eval more q r at)
  unfolding eval
  eval_keeps (Queries.nothing n) r at = kept
  eval_keeps (Queries.text n t) r at = written_keeps n at (leaf t end)
  eval_keeps (Queries.element n l q) r at =
      keeps_bind (keeps_require (ltb at room) (ltb at more) 21 n 21 n (λ h. lt-ltb at more (omega (arith, ltb-true at room h)))) λ _. keeps_bind (eval_keeps q r (at + 1)) λ f. kept
  eval_keeps (Queries.pair n p q) r at = keeps_bind (eval_keeps p r at) λ f. keeps_bind (eval_keeps q r (at + size f)) λ g. kept
  eval_keeps (Queries.variable n v) r at = written_keeps n at (value_of r v)
  eval_keeps (Queries.child n v w) r at = written_keeps n at (select w (children (value_of r v)))
  eval_keeps (Queries.dos n v w) r at = written_keeps n at (select w (below (value_of r v)))
  eval_keeps (Queries.for n v p q) r at = keeps_bind (eval_keeps p r at) λ f. each_keeps (λ x here. eval_keeps q ((v, x) ∷ r) here) f (at + size f)
  eval_keeps (Queries.let_in n v p q) r at = keeps_bind (eval_keeps p r at) λ f. eval_keeps q ((v, f) ∷ r) (at + size f)
  eval_keeps (Queries.when n p q) r at = go (holds p r) (eval_keeps q r at)
    where
      go : (b : Bool) → Keeps (eval room q r at) (eval more q r at) → Keeps {A = Forest} (elim b [ true ↦ eval room q r at | false ↦ ok end ]) (elim b [ true ↦ eval more q r at | false ↦ ok end ])
      go true x = x
      go false x = kept

-- ENOUGH ROOM: from some room on, an answer that depends on the room is this one
pub record Enough {A : Type 0} (o : ℕ → Out A) (a : A) : Type 0 where
  pub room : ℕ
  pub is : (more : ℕ) → room ≤ more → o more ≡ ok a

enough_bind : {A B : Type 0} {o : ℕ → Out A} (k : ℕ → A → Out B) {a : A} {b : B} → Enough o a → Enough (λ n. k n a) b → Enough (λ n. o n >>= k n) b
enough_bind k x y = record { room = x.room + y.room; is = λ more h. rw (x.is more (omega arith)) (y.is more (omega arith)) }

enough_ok : {A : Type 0} {a : A} → Enough (λ _. ok a) a
enough_ok = record { room = 0; is = λ more h. refl }

enough_written : (n at : ℕ) (f : Forest) → Enough (λ room. written room n at f) f
enough_written n at f = record { room = at + size f; is = λ more h. rw (le-leb (at + size f) more h) refl }

enough_below : (n at : ℕ) → Enough (λ room. require (ltb at room) 21 n) tt
enough_below n at = record { room = suc at; is = λ more h. rw (lt-ltb at more h) refl }

enough_each : (b : ℕ → Forest → ℕ → Out Forest) {c : Forest → Forest} → ((x : Forest) (here : ℕ) → Enough (λ room. b room x here) (c x)) → (f : Forest) (at : ℕ) → Enough (λ room. for_each (b room) f at) (over c f)
unfolding for_each over
enough_each b h end at = enough_ok
enough_each b h (leaf t r) at = enough_bind _ (h (leaf t end) at) (enough_bind _ (enough_each b h r _) enough_ok)
enough_each b h (tree l i r) at = enough_bind _ (h (tree l i end) at) (enough_bind _ (enough_each b h r _) enough_ok)

pub eval_enough_on : (q : Query) (r : Env) (at : ℕ) → Enough (λ room. eval room q r at) (meaning_of q r)
unfolding eval meaning_of
eval_enough_on (Queries.nothing n) r at = enough_ok
eval_enough_on (Queries.text n t) r at = enough_written n at (leaf t end)
eval_enough_on (Queries.element n l q) r at = enough_bind _ (enough_below n at) (enough_bind _ (eval_enough_on q r (at + 1)) enough_ok)
eval_enough_on (Queries.pair n p q) r at = enough_bind _ (eval_enough_on p r at) (enough_bind _ (eval_enough_on q r _) enough_ok)
eval_enough_on (Queries.variable n v) r at = enough_written n at (value_of r v)
eval_enough_on (Queries.child n v w) r at = enough_written n at (select w (children (value_of r v)))
eval_enough_on (Queries.dos n v w) r at = enough_written n at (select w (below (value_of r v)))
eval_enough_on (Queries.for n v p q) r at = enough_bind _ (eval_enough_on p r at) (enough_each _ (λ x here. eval_enough_on q ((v, x) ∷ r) here) _ _)
eval_enough_on (Queries.let_in n v p q) r at = enough_bind _ (eval_enough_on p r at) (eval_enough_on q ((v, _) ∷ r) _)
eval_enough_on (Queries.when n p q) r at = go (holds p r) (eval_enough_on q r at)
  where
    go : (b : Bool) → Enough (λ room. eval room q r at) (meaning_of q r) → Enough (λ room. elim b [ true ↦ eval room q r at | false ↦ ok end ]) (keep b (meaning_of q r))
    go true x = x
    go false x = enough_ok

pub eval_enough : (q : Query) (r : Env) (at : ℕ) → (room : ℕ) × (eval room q r at ≡ ok (meaning_of q r))
eval_enough q r at = let x = eval_enough_on q r at in (x.room, x.is x.room (omega arith))
