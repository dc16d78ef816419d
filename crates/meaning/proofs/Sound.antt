-- Soundness: whatever a query means in an environment that agrees with the scope is in the entry that typing answers. It is shown for every query
-- under every scope, so for every subquery too.
-- Assumes nothing.
use mathlib.Core.Path.{◌≡◌, subst}
use mathlib.Core.Bool.{Bool, true, false}
use mathlib.Core.List.{◌∷◌}
use mathlib.Core.Option.{some}
use Prim.Native.Nat.{ℕ, ◌≤◌, ◌<◌}
use lib.Dec.{eqb}
use lib.ListN.{length}
use Rattle.meaning.specs.Base.{At, find, otherwise}
use Rattle.meaning.specs.Forests.{Forest, end, keep, over, select, children}
use Rattle.meaning.specs.Types as Types
use Rattle.meaning.specs.Types.{Table, Defs}
use Rattle.meaning.specs.Members.{Fits, Has}
use Rattle.meaning.specs.Formed.{Formed}
use Rattle.meaning.specs.Shapes.{shape, quant}
use Rattle.meaning.specs.Records.{Var, tree, forest}
use Rattle.meaning.specs.Queries as Queries
use Rattle.meaning.specs.Queries.{Query}
use Rattle.meaning.specs.Rules.{child_rule}
use Rattle.meaning.specs.Records.{type_in}
use Rattle.meaning.specs.Typing.{Scope, lookup, only_tree, tree_type, State, Walk, type_cond, unbound, for_rule, type_of}
use Rattle.meaning.specs.Running.{Env, value_of, holds, meaning_of}
use Rattle.meaning.proofs.Lists.{Grows, grows_refl, grows_trans}
use Rattle.meaning.proofs.Ends.{Ends, gives, stops, Any, Anyhow, ends_bind, ends_after, ends_map, ends_by, ends_and, ends_given, ends_anyhow, ends_leaving, ends_from_lem}
use Rattle.meaning.proofs.Nodes.{everywhere}
use Rattle.meaning.proofs.Labels.{Labels}
use Rattle.meaning.proofs.Forests.{each_map}
use Rattle.meaning.proofs.Members.{has, has_grows}
use Rattle.meaning.proofs.Shapes.{shape_shaped, shaped_shape}
use Rattle.meaning.proofs.ShapeMembers.{shaped_leaves, to_member}
use Rattle.meaning.proofs.RuleMembers.{Flat, Unions, unions_grows, append_there, quant_counts, prime_each, content_opens, filter_selects}
use Rattle.meaning.proofs.Times.{times_joins}
use Rattle.meaning.proofs.DosMembers.{dos_has}
use Rattle.meaning.proofs.Grow.{Grew, grew_on, Grown, Scoped, scoped_grows, scoped_bind, shape_within, prime_ends, content_ends, type_ends}

-- each variable's value is in its type
abbrev pub Agree : Defs → Table → Scope → Env → Type 0
Agree D T g r = (v : ℕ) (x : Var) → find v g ≡ some x → Has D T (type_in x) (value_of r v)

-- a tree variable's type has unions of atoms and of () alone
abbrev pub TreeIn : Defs → Table → Var → Type 0
TreeIn D T (tree e) = Unions D T e
TreeIn D T (forest e) = Unit {0}

abbrev pub Trees : Defs → Table → Scope → Type 0
Trees D T g = (v : ℕ) (x : Var) → find v g ≡ some x → TreeIn D T x

module _ (D : Defs) {T U : Table} (h : Grows T U) where
  agree_grows : (g : Scope) (r : Env) → Agree D T g r → Agree D U g r
  agree_grows g r a v x p = has_grows h (a v x p)

  tree_grows : (x : Var) → TreeIn D T x → TreeIn D U x
  tree_grows (tree e) a = unions_grows h a
  tree_grows (forest e) a = tt

  trees_grows : (g : Scope) → Trees D T g → Trees D U g
  trees_grows g a v x p = tree_grows x (a v x p)

module _ (D : Defs) (T : Table) (g : Scope) (v : ℕ) (x : Var) where
  agree_bind : (r : Env) (f : Forest) → Agree D T g r → Has D T (type_in x) f → Agree D T ((v, x) ∷ g) ((v, f) ∷ r)
  unfolding find
  agree_bind r f a h w y = go (eqb w v)
    where
      go : (c : Bool) → elim c [ true ↦ some x | false ↦ find w g ] ≡ some y → Has D T (type_in y) (otherwise end (elim c [ true ↦ some f | false ↦ find w r ]))
      go true p = let q : x ≡ y = cc in rw (← q) h
      go false p = a w y p

  trees_bind : Trees D T g → TreeIn D T x → Trees D T ((v, x) ∷ g)
  unfolding find
  trees_bind a h w y = go (eqb w v)
    where
      go : (c : Bool) → elim c [ true ↦ some x | false ↦ find w g ] ≡ some y → TreeIn D T y
      go true p = let q : x ≡ y = cc in subst (TreeIn D T) q h
      go false p = a w y p

-- what typing promises of a query: the table grows, and the query's meaning is in the entry, in every environment that agrees
pub record Sound (D : Defs) (T : Table) (g : Scope) (means : Env → Forest) (p : State × ℕ) : Type 0 where
  pub grows : Grows T p.0.types
  pub gives : (r : Env) → Agree D T g r → Has D p.0.types p.1 (means r)

-- the tables, scope and query that typing is asked about
pub record Ready (D : Defs) (room : ℕ) (T : Table) (g : Scope) : Type 0 where
  pub formed : Formed D T
  pub fits : length T ≤ room
  pub scoped : Scoped T g
  pub trees : Trees D T g

module _ (room : ℕ) (D : Defs) (most : room ≤ 4096) where
  ready_on : {T : Table} {g : Scope} {r : Table × ℕ} → Ready D room T g → Grew D room T r → Ready D room r.0 g
  ready_on {g = g} a k = record { formed = k.formed; fits = k.fits; scoped = scoped_grows g k.grows a.scoped; trees = trees_grows D k.grows g a.trees }

  ready_bind : {T : Table} {g : Scope} (v : ℕ) (x : Var) → Ready D room T g → type_in x < length T → TreeIn D T x → Ready D room T ((v, x) ∷ g)
  ready_bind {T} {g} v x a l t =
      record { formed = a.formed; fits = a.fits; scoped = scoped_bind T g v x a.scoped l; trees = trees_bind D T g v x a.trees t }

  -- a variable, and a tree variable
  found : (n v : ℕ) (g : Scope) → Ends (λ x. find v g ≡ some x) Anyhow (lookup n g v)
  found n v g = ends_given (find v g) 13 n tt

  found_tree : (n v : ℕ) (g : Scope) → Ends (λ e. find v g ≡ some (tree e)) Anyhow (tree_type n g v)
  found_tree n v g = ends_bind (found n v g) only
    where
      only : (x : Var) → find v g ≡ some x → Ends (λ e. find v g ≡ some (tree e)) Anyhow (only_tree n x)
      only (tree e) p = gives p
      only (forest e) p = stops tt

  -- CHILD: the content of a tree variable's type, filtered
  flat_shape : {T : Table} {e : ℕ} → Formed D T → Unions D T e → Flat (shape D T e)
  flat_shape F u = rw (shaped_shape F u.shaped) u.flat

  child_sound : (n w e : ℕ) (T : Table) → Formed D T → length T ≤ room → e < length T → Unions D T e
      → Ends (λ p. Grows T p.0 × ((f : Forest) → Has D T e f → Has D p.0 p.1 (select w (children f)))) Anyhow (child_rule room n D w e T)
  unfolding child_rule
  child_sound n w e T F h l u =
      ends_after (ends_and (content_ends D room most n (shape D T e) T F h (shape_within F l)) (content_opens room n D (shape D T e) T F.zeroth (flat_shape F u))) λ U c k.
      ends_map (filter_selects room n D w c U k.0.formed.zeroth (shape_shaped D U k.0.formed c k.0.low)) λ p j.
      (grows_trans k.1.grows j.grows, λ f m. j.selects _ (k.1.inside f (to_member D T (shape_shaped D T F e l) m)))

  -- FOR, whatever its body: if each tree's body is in the body's entry, their join is in the entry of the rule
  pub for_sound : (n e : ℕ) (g : Scope) (means : Env → Forest → Forest) (body : ℕ → Walk ℕ) (s : State) → Formed D s.types → length s.types ≤ room → e < length s.types
      → ((u : State) (x : ℕ) → Grown D room s (u, x) → Unions D u.types x
      → Ends (λ p. Grows u.types p.0.types × ((r : Env) (t : Forest) → Agree D u.types g r → Has D u.types x t → Has D p.0.types p.1 (means r t))) Anyhow (body x u))
      → Ends (λ p. Grows s.types p.0.types × ((r : Env) (f : Forest) → Agree D s.types g r → Has D s.types e f → Has D p.0.types p.1 (over (means r) f))) Anyhow (for_rule room D n e body s)
  unfolding for_rule
  for_sound n e g means body s F h l k =
      let T = s.types in
      let shaped = shape_shaped D T F e l in
      ends_after (ends_leaving s (ends_and (prime_ends D room most n (shape D T e) T F h (shape_within F l)) (prime_each room n D (shape D T e) T (shaped_leaves shaped)))) λ u x a.
      ends_after (k u x a.0 a.1.unions) λ w y b.
      ends_map (ends_leaving w (times_joins room n D (quant (shape D T e)) y w.types)) λ p c. (
        grows_trans a.1.grows (grows_trans b.0 c.grows),
        λ r f i m.
            let j = to_member D T shaped m in
            c.bodies (means r) f (quant_counts j) (each_map _ _ (λ t z. b.1 r t (agree_grows D a.1.grows g r i) z) f (a.1.each f j)),
      )

  keep_opt : (T : Table) (e u : ℕ) (b : Bool) (f : Forest) → At T e (Types.opt u) → Has D T u f → Has D T e (keep b f)
  keep_opt T e u true f p h = has p (Fits.with h.there h.fits)
  keep_opt T e u false f p h = has p Fits.without

  grown : (q : Query) (g : Scope) (s : State) → Ready D room s.types g → Labels q → Ends (Grown D room s) Anyhow (type_of room D q g s)
  grown q g s a l = ends_by (type_ends room D most Any q g s a.formed a.fits a.scoped l (everywhere Any (λ n. tt) q)) (λ n p _. tt)

  -- THE SOUNDNESS THEOREM
  pub sound : (q : Query) (g : Scope) (s : State) → Ready D room s.types g → Labels q → Ends (Sound D s.types g (meaning_of q)) Anyhow (type_of room D q g s)
  unfolding type_of meaning_of Labels
  sound (Queries.nothing n) g s a l = gives (record { grows = grows_refl; gives = λ r i. has a.formed.zeroth Fits.nothing })
  sound (Queries.text n t) g s a l = gives (record { grows = grows_refl; gives = λ r i. has a.formed.first Fits.text })
  sound (Queries.element n x q) g s a l =
      ends_after (sound q g s a l.2) λ u e h. ends_map (ends_leaving u (append_there room n (Types.element x e) u.types)) λ p k.
      record { grows = grows_trans h.grows k.grows; gives = λ r i. let m = has_grows k.grows (h.gives r i) in has k.there (Fits.inside m.there m.fits) }
  sound (Queries.pair n p q) g s a l =
      ends_after (ends_and (grown p g s a l.0) (sound p g s a l.0)) λ u x h. ends_after (sound q g u (ready_on a h.0) l.1) λ w y k.
      ends_map (ends_leaving w (append_there room n (Types.pair x y) w.types)) λ z j.
      let o = grows_trans k.grows j.grows in
      record {
        grows = grows_trans h.1.grows o;
        gives = λ r i.
            let m = has_grows o (h.1.gives r i) in
            let c = has_grows j.grows (k.gives r (agree_grows D h.1.grows g r i)) in
            has j.there (Fits.both m.there c.there m.fits c.fits);
      }
  sound (Queries.variable n v) g s a l = ends_from_lem _ _ (found n v g) λ x p. gives (record { grows = grows_refl; gives = λ r i. i v x p })
  sound (Queries.child n v w) g s a l =
      ends_from_lem _ _ (found_tree n v g) λ e p.
      ends_map (ends_leaving s (child_sound n w e s.types a.formed a.fits (a.scoped v (tree e) p) (a.trees v (tree e) p))) λ z k.
      record { grows = k.0; gives = λ r i. k.1 _ (i v (tree e) p) }
  sound (Queries.dos n v w) g s a l =
      ends_from_lem _ _ (found_tree n v g) λ e p. ends_map (ends_leaving s (dos_has room n D w e s.types a.formed.zeroth)) λ z k.
      record { grows = k.grows; gives = λ r i. k.trees _ (i v (tree e) p) }
  sound (Queries.for n v p q) g s a l =
      ends_after (ends_and (grown p g s a l.0) (sound p g s a l.0)) λ u e h. ends_from_lem _ _ (ends_anyhow (unbound n g v)) λ _ _.
      ends_map (for_sound n e g (λ r t. meaning_of q ((v, t) ∷ r)) (λ x. type_of room D q ((v, tree x) ∷ g)) u h.0.formed h.0.fits h.0.low λ w x k c.
      ends_map (sound q ((v, tree x) ∷ g) w (ready_bind v (tree x) (ready_on a (grew_on h.0.grows k)) k.low c) l.1) λ z j.
      (j.grows, λ r t i m. j.gives ((v, t) ∷ r) (agree_bind D w.types g v (tree x) r t i m))) λ z k.
      record { grows = grows_trans h.1.grows k.0; gives = λ r i. k.1 r (meaning_of p r) (agree_grows D h.1.grows g r i) (h.1.gives r i) }
  sound (Queries.let_in n v p q) g s a l =
      ends_after (ends_and (grown p g s a l.0) (sound p g s a l.0)) λ u e h. ends_from_lem _ _ (ends_anyhow (unbound n g v)) λ _ _.
      ends_map (sound q ((v, forest e) ∷ g) u (ready_bind v (forest e) (ready_on a h.0) h.0.low tt) l.1) λ z k.
      record {
        grows = grows_trans h.1.grows k.grows;
        gives = λ r i. k.gives ((v, meaning_of p r) ∷ r) (agree_bind D u.types g v (forest e) r (meaning_of p r) (agree_grows D h.1.grows g r i) (h.1.gives r i));
      }
  sound (Queries.when n c q) g s a l =
      ends_from_lem _ _ (ends_anyhow (type_cond c g)) λ _ _. ends_after (sound q g s a l) λ u x h.
      ends_map (ends_leaving u (append_there room n (Types.opt x) u.types)) λ z k.
      record {
        grows = grows_trans h.grows k.grows;
        gives = λ r i. keep_opt z.0.types z.1 x (holds c r) (meaning_of q r) k.there (has_grows k.grows (h.gives r i));
      }
