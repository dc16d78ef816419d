-- What an evaluation leaves, by its answer; and what each kind of query means when its parts are known.
-- Assumes nothing.
use Rattle.std.specs.Prelude as Std
use mathlib.Core.Path.{◌≡◌, refl, sym, ap, subst, ◌∙◌}
use mathlib.Core.Bool.{true, false}
use mathlib.Core.List.{List, ◌∷◌, ◌++◌}
use Prim.Native.Nat.{ℕ, ◌+◌, ◌*◌, ◌-◌, ◌/◌, ◌≤◌, ◌<◌}
use native.Mathlib.Omega.{arith}
use lib.ListN.{length, take, drop}
use borrow.Author.Tests.{le-leb, lt-leb, lt-ltb, le-ltb}
use Rattle.meaning.specs.Base.{Out, ok, refused, ◌>>=◌}
use Rattle.meaning.specs.Forests.{Forest, end, leaf, tree, join, size, select, children, below}
use Rattle.meaning.specs.Queries as Queries
use Rattle.meaning.specs.Queries.{Query, Cond}
use Rattle.meaning.specs.Running.{Env, value_of, holds, written, for_each, eval}
use Rattle.refusals.specs.declared.Refusal.{Refusal}
use Rattle.copies.specs.Fills as Fills
use Rattle.copies.specs.Fills.{Made, no_room, first, Filled, Copied}
use Rattle.copies.proofs.Lent.{back}
use Rattle.copies.proofs.Filling.{differ, behind_filled}
use Rattle.copies.proofs.Firsts.{others}
use Rattle.moves.specs.Moves.{Wraps, Moves}
use Rattle.running.specs.Evaluates.{Step, Left, done, full}

-- BY THE ANSWER
pub record Got (room : ℕ) (us : List ℕ) (k : ℕ) (o : Out Forest) : Type 0 where
  pub forest : Forest
  pub is : o ≡ ok forest
  pub filled : Filled room us k forest

pub left_done : {room : ℕ} {us : List ℕ} {r : Made} {o : Out Forest} {k : ℕ} → r ≡ Std.Ok k → Left room us r o → Got room us k o
left_done {room} {us} {k = k} e (done {k = j} {f = f} h) = let p : j ≡ k = cc in record { forest = f; is = refl; filled = subst (λ (x : ℕ). Filled room us x f) p h }
left_done e full = differ (cc)

pub left_full : {room : ℕ} {us : List ℕ} {r : Made} {o : Out Forest} {x : Refusal} → r ≡ Std.Err x → Left room us r o → (x ≡ no_room x.place) × (o ≡ refused 21 x.place)
left_full e (done h) = differ (cc)
left_full {x = x} e (full {n = m}) = let p : no_room m ≡ x = cc in let q : m ≡ x.place = ap (λ (y : Refusal). y.place) p in (sym p ∙ ap no_room q, ap (refused 21) q)

pub left_as : {room : ℕ} {us : List ℕ} {r : Made} {o p : Out Forest} → p ≡ o → Left room us r o → Left room us r p
left_as {room} {us} {r} e h = subst (λ (x : Out Forest). Left room us r x) (sym e) h

pub full_is : {room : ℕ} {us : List ℕ} {o : Out Forest} {x : Refusal} → x ≡ no_room x.place → o ≡ refused 21 x.place → Left room us (Std.Err x) o
full_is {room} {us} {o} {x} e p = subst (λ (y : Refusal). Left room us (Std.Err y) o) (sym e) (left_as p full)

-- A COPY
pub left_written : {room : ℕ} {us : List ℕ} {n : ℕ} {r : Made} {f : Forest} (at : ℕ) → Copied room us n r f → Left room us r (written (at + room / 3) n at f)
left_written {room} {f = f} at (Fills.done {k = k} h) = rw (le-leb (at + size f) (at + room / 3) (omega (arith, h.count, h.fits))) (done h)
left_written {room} {f = f} at (Fills.full h) = rw (lt-leb (at + size f) (at + room / 3) (omega arith)) full

-- ONE FOREST BEHIND ANOTHER
pub laid_behind : {room k m : ℕ} {us vs : List ℕ} {f g : Forest} → Filled room us k f → Filled (room - 3 * k) vs m g → Filled room (take (3 * k) us ++ vs) (k + m) (join f g)
laid_behind {room} {k} {m} {us} {vs} {f} {g} h i = subst (λ (ws : List ℕ). Filled room ws (k + m) (join f g)) (back (3 * k) us vs) (behind_filled h i)

-- the answer with k entries more
abbrev pub raised : ℕ → Made → Made
raised k (Std.Ok m) = Std.Ok (k + m)
raised k (Std.Err e) = Std.Err e

abbrev pub lifted : ℕ → Step → Step
lifted k part = record { made = raised k part.made; scope = part.scope }

pub left_join : {room k : ℕ} {us vs : List ℕ} {f : Forest} {r : Made} {o : Out Forest} → Filled room us k f → Left (room - 3 * k) vs r o → Left room (take (3 * k) us ++ vs) (raised k r) (o >>= λ g. ok (join f g))
left_join h (done i) = done (laid_behind h i)
left_join h full = full

-- the same under other names
pub left_made : {room : ℕ} {us : List ℕ} {r t : Made} {o : Out Forest} → r ≡ t → Left room us t o → Left room us r o
left_made {room} {us} {o = o} e h = subst (λ (x : Made). Left room us x o) (sym e) h

-- AN ELEMENT'S ENTRY before a body of k entries that stands behind it
pub left_wrap : {ws us vs : List ℕ} {room l k : ℕ} {o : Out Forest} → length ws ≡ room → drop 3 ws ≡ vs → Wraps ws us l k → Left (room - 3) vs (Std.Ok k) o → Left room us (Std.Ok (1 + k)) (o >>= λ f. ok (tree l f end))
left_wrap {ws} {us} {room = room} {l} {k} n e w h =
    let g = left_done refl h in
    left_as (ap (λ (y : Out Forest). y >>= λ f. ok (tree l f end)) g.is)
    (done (subst (λ (j : ℕ). Filled j us (1 + k) (tree l g.forest end)) n (w.is g.forest (subst (λ (j : ℕ). Filled (j - 3) (drop 3 ws) k g.forest) (sym n) (subst (λ (x : List ℕ). Filled (room - 3) x k g.forest) (sym e) g.filled)))))

-- BODIES of m entries MOVED DOWN over k that they stand behind
pub left_move : (k : ℕ) {ws us vs : List ℕ} {room m : ℕ} {o : Out Forest} → length ws ≡ room → drop (3 * k) ws ≡ vs → Moves ws us k m → Left (room - 3 * k) vs (Std.Ok m) o → Left room us (Std.Ok m) o
left_move k {ws} {us} {room = room} {m} n e w h =
    let g = left_done refl h in
    left_as g.is
    (done (subst (λ (j : ℕ). Filled j us m g.forest) n (w.is g.forest (subst (λ (j : ℕ). Filled (j - 3 * k) (drop (3 * k) ws) m g.forest) (sym n) (subst (λ (x : List ℕ). Filled (room - 3 * k) x m g.forest) (sym e) g.filled)))))

-- WHAT A QUERY MEANS when its parts are known
module _ (top n : ℕ) (env : Env) (at : ℕ) where
  pub nothing_is : eval top (Queries.nothing n) env at ≡ ok end
  unfolding eval
  nothing_is = refl

  pub text_is : (t : ℕ) → eval top (Queries.text n t) env at ≡ written top n at (leaf t end)
  unfolding eval
  text_is t = refl

  pub variable_is : (v : ℕ) → eval top (Queries.variable n v) env at ≡ written top n at (value_of env v)
  unfolding eval
  variable_is v = refl

  pub child_is : (v w : ℕ) → eval top (Queries.child n v w) env at ≡ written top n at (select w (children (value_of env v)))
  unfolding eval
  child_is v w = refl

  pub dos_is : (v w : ℕ) → eval top (Queries.dos n v w) env at ≡ written top n at (select w (below (value_of env v)))
  unfolding eval
  dos_is v w = refl

  pub element_is : (l : ℕ) (q : Query) → at < top → eval top (Queries.element n l q) env at ≡ (eval top q env (at + 1) >>= λ f. ok (tree l f end))
  unfolding eval
  element_is l q h = rw (lt-ltb at top h) refl

  pub element_not : (l : ℕ) (q : Query) → top ≤ at → eval top (Queries.element n l q) env at ≡ refused 21 n
  unfolding eval
  element_not l q h = rw (le-ltb at top h) refl

  module _ (p q : Query) {k : ℕ} {f : Forest} (e : eval top p env at ≡ ok f) (c : size f ≡ k) where
    pub pair_is : eval top (Queries.pair n p q) env at ≡ (eval top q env (at + k) >>= λ g. ok (join f g))
    unfolding eval
    pair_is = rw e (ap (λ (j : ℕ). eval top q env (at + j) >>= λ g. ok (join f g)) c)

    pub let_is : (v : ℕ) → eval top (Queries.let_in n v p q) env at ≡ eval top q ((v, f) ∷ env) (at + k)
    unfolding eval
    let_is v = rw e (ap (λ (j : ℕ). eval top q ((v, f) ∷ env) (at + j)) c)

    pub for_is : (v : ℕ) → eval top (Queries.for n v p q) env at ≡ for_each (λ x here. eval top q ((v, x) ∷ env) here) f (at + k)
    unfolding eval
    for_is v = rw e (ap (λ (j : ℕ). for_each (λ x here. eval top q ((v, x) ∷ env) here) f (at + j)) c)

  module _ (p q : Query) {m : ℕ} (e : eval top p env at ≡ refused 21 m) where
    pub pair_not : eval top (Queries.pair n p q) env at ≡ refused 21 m
    unfolding eval
    pair_not = rw e refl

    pub let_not : (v : ℕ) → eval top (Queries.let_in n v p q) env at ≡ refused 21 m
    unfolding eval
    let_not v = rw e refl

    pub for_not : (v : ℕ) → eval top (Queries.for n v p q) env at ≡ refused 21 m
    unfolding eval
    for_not v = rw e refl

  pub when_is : (p : Cond) (q : Query) → holds p env ≡ true → eval top (Queries.when n p q) env at ≡ eval top q env at
  unfolding eval
  when_is p q e = rw (e, eval) refl

  pub when_not : (p : Cond) (q : Query) → holds p env ≡ false → eval top (Queries.when n p q) env at ≡ ok end
  unfolding eval
  when_not p q e = rw (e, eval) refl

-- EACH TREE IN TURN
pub each_first : (body : Forest → ℕ → Out Forest) (f : Forest) (at : ℕ) → 0 < size f → for_each body f at ≡ (body (first f) at >>= λ g. for_each body (others f) (at + size g) >>= λ h. ok (join g h))
unfolding for_each size first others
each_first body end at h = absurd (omega arith)
each_first body (leaf t r) at h = refl
each_first body (tree l i r) at h = refl
