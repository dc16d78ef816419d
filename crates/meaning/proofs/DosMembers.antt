-- What the type of descendant-or-self has: the trees of a member and all below them that pass the test, the tree itself too.
-- Assumes nothing.
use mathlib.Core.Path.{◌≡◌, refl, sym, subst}
use mathlib.Core.Bool.{Bool, true, false}
use mathlib.Core.List.{List, [], ◌∷◌}
use mathlib.Core.Option.{some}
use Prim.Native.Nat.{ℕ, ◌<◌}
use lib.ListN.{length}
use Rattle.meaning.specs.Base.{At, In, first, later}
use Rattle.meaning.specs.Forests.{Forest, end, leaf, tree, join, below, select, keep, passes, Head, text, label}
use Rattle.meaning.specs.Types as Types
use Rattle.meaning.specs.Types.{Entry, Table, Defs, head_of}
use Rattle.meaning.specs.Members.{Fits, Has}
use Rattle.meaning.specs.Reach.{steps_of, Path, here, step, atoms_below}
use Rattle.meaning.specs.Rules.{unions, star_of, dos_rule}
use Rattle.meaning.proofs.Lists.{at_low, at_get_or, in_cons, in_none, Grows, grows_refl, grows_trans}
use Rattle.meaning.proofs.Ends.{Ends, gives, Anyhow, ends_after, ends_map}
use Rattle.meaning.proofs.Forests.{below_join, Each, each_join, each_map}
use Rattle.meaning.proofs.Members.{has, has_grows}
use Rattle.meaning.proofs.Reach.{atoms_exact}
use Rattle.meaning.proofs.RuleMembers.{append_there, has_left, has_right}

-- what a test word looks at in a forest of one tree
unfoldable pub top_of : Forest → Head
top_of end = text
top_of (leaf t r) = text
top_of (tree l f r) = label l

module _ (D : Defs) (T : Table) (a : ℕ) where
  -- a tree is in an atom that entry a reaches
  pub record Under (t : Forest) : Type 0 where
    pub atom : ℕ
    pub entry : Entry
    pub path : Path true D T a atom
    pub there : At T atom entry
    pub fits : Fits D T entry t
    pub head : head_of entry ≡ some (top_of t)

  -- by a step from entry e
  on : {e j : ℕ} {x : Entry} → Path true D T a e → At T e x → In j (steps_of true D x) → Path true D T a j
  on s p i = step s p i

  pub below_under : {e : ℕ} {x : Entry} {f : Forest} → Path true D T a e → At T e x → Fits D T x f → Each Under (below f)
  unfolding below Each steps_of head_of top_of join
  below_under s p Fits.nothing = tt
  below_under {e} s p Fits.text = (record { atom = e; entry = _; path = s; there = p; fits = Fits.text; head = refl }, tt)
  below_under {e} s p (Fits.inside {f = f} q h) =
      (record { atom = e; entry = _; path = s; there = p; fits = Fits.inside q h; head = refl }, each_join Under (below f) end (below_under (on s p first) q h) tt)
  below_under s p (Fits.both {f = f} {g = g} q r h k) =
      rw below_join (each_join Under (below f) (below g) (below_under (on s p first) q h) (below_under (on s p (later first)) r k))
  below_under s p (Fits.left q h) = below_under (on s p first) q h
  below_under s p (Fits.right q h) = below_under (on s p (later first)) q h
  below_under s p Fits.stop = tt
  below_under s p (Fits.more {f = f} {g = g} q h k) = rw below_join (each_join Under (below f) (below g) (below_under (on s p first) q h) (below_under s p k))
  below_under s p (Fits.once q h) = below_under (on s p first) q h
  below_under s p (Fits.again {f = f} {g = g} q h k) = rw below_join (each_join Under (below f) (below g) (below_under (on s p first) q h) (below_under s p k))
  below_under s p Fits.without = tt
  below_under s p (Fits.with q h) = below_under (on s p first) q h
  below_under s p (Fits.named {c = c} d q h) = below_under (on s p (subst (λ i. In c (i ∷ [])) (sym (at_get_or d 0)) first)) q h

-- the trees of a selection pass the test
each_select : (P : Forest → Type 0) (w : ℕ) (f : Forest) → Each P f → Each (λ t. P t × (passes w (top_of t) ≡ true)) (select w f)
unfolding Each select top_of
each_select P w end h = tt
each_select P w (leaf t r) h = each_join (λ t. P t × (passes w (top_of t) ≡ true)) _ (select w r) (go (passes w text) refl) (each_select P w r h.1)
  where
    go : (b : Bool) → passes w text ≡ b → Each (λ t. P t × (passes w (top_of t) ≡ true)) (keep b (leaf t end))
    go true p = ((h.0, p), tt)
    go false p = tt
each_select P w (tree l i r) h = each_join (λ t. P t × (passes w (top_of t) ≡ true)) _ (select w r) (go (passes w (label l)) refl) (each_select P w r h.1)
  where
    go : (b : Bool) → passes w (label l) ≡ b → Each (λ t. P t × (passes w (top_of t) ≡ true)) (keep b (tree l i end))
    go true p = ((h.0, p), tt)
    go false p = tt

-- a forest each of whose trees is in u is in u*
star_each : (D : Defs) (T : Table) (u : ℕ) (f : Forest) → Each (Has D T u) f → Fits D T (Types.star u) f
unfolding Each join
star_each D T u end h = Fits.stop
star_each D T u (leaf t r) h = Fits.more {f = leaf t end} h.0.there h.0.fits (star_each D T u r h.1)
star_each D T u (tree l i r) h = Fits.more {f = tree l i end} h.0.there h.0.fits (star_each D T u r h.1)

module _ (room n : ℕ) (D : Defs) where
  pub record United (x : ℕ) (xs : List ℕ) (T : Table) (r : Table × ℕ) : Type 0 where
    pub grows : Grows T r.0
    pub each : (y : ℕ) → In y (x ∷ xs) → (f : Forest) → Has D T y f → Has D r.0 r.1 f

  unions_each : (x : ℕ) (xs : List ℕ) (T : Table) → Ends (United x xs T) Anyhow (unions room n x xs T)
  unfolding unions
  unions_each x [] T = gives (record { grows = grows_refl; each = in_cons (λ f h. h) (λ y i. in_none i) })
  unions_each x (y ∷ ys) T =
      ends_after (append_there room n (Types.union x y) T) λ U u q. ends_map (unions_each u ys U) λ r k.
      record {
        grows = grows_trans q.grows k.grows;
        each = in_cons (λ f h. k.each u first f (has_left q.there (has_grows q.grows h)))
            (in_cons (λ f h. k.each u first f (has_right q.there (has_grows q.grows h))) (λ z i f h. k.each z (later i) f (has_grows q.grows h)));
      }

  -- a forest each of whose trees is in one of the listed entries is in the star of their union
  pub record Starred (xs : List ℕ) (T : Table) (r : Table × ℕ) : Type 0 where
    pub grows : Grows T r.0
    pub all : (f : Forest) → Each (λ t. (x : ℕ) × In x xs × Has D T x t) f → Has D r.0 r.1 f

  star_none : (T : Table) → At T 0 Types.empty → (f : Forest) → Each (λ t. (x : ℕ) × In x [] × Has D T x t) f → Has D T 0 f
  unfolding Each
  star_none T z end h = has z Fits.nothing
  star_none T z (leaf t r) h = in_none h.0.1
  star_none T z (tree l i r) h = in_none h.0.1

  star_all : (xs : List ℕ) (T : Table) → At T 0 Types.empty → Ends (Starred xs T) Anyhow (star_of room n xs T)
  unfolding star_of
  star_all [] T z = gives (record { grows = grows_refl; all = star_none T z })
  star_all (x ∷ xs) T z =
      ends_after (unions_each x xs T) λ U u k. ends_map (append_there room n (Types.star u) U) λ r q.
      record {
        grows = grows_trans k.grows q.grows;
        all = λ f h. has q.there (star_each D r.0 u f (each_map _ _ (λ t m. has_grows q.grows (k.each m.0 m.1 t m.2)) f h));
      }

  pub record Descended (w e : ℕ) (T : Table) (r : Table × ℕ) : Type 0 where
    pub grows : Grows T r.0
    pub trees : (f : Forest) → Has D T e f → Has D r.0 r.1 (select w (below f))

  -- DOS
  pub dos_has : (w e : ℕ) (T : Table) → At T 0 Types.empty → Ends (Descended w e T) Anyhow (dos_rule room n D w e T)
  unfolding dos_rule
  dos_has w e T z =
      ends_map (star_all (atoms_below w D T e) T z) λ r s.
      record {
        grows = s.grows;
        trees = λ f h. s.all (select w (below f)) (each_map _ _ (chosen (at_low h.there)) _ (each_select _ w (below f) (below_under D T e here h.there h.fits)));
      }
    where
      chosen : e < length T → (t : Forest) → Under D T e t × (passes w (top_of t) ≡ true) → (x : ℕ) × In x (atoms_below w D T e) × Has D T x t
      chosen l t k =
          let u = k.0 in
          (u.atom, (atoms_exact w D T e u.atom l).1 (at_low u.there, u.path, top_of t, rw (at_get_or u.there Types.empty) u.head, k.1), has u.there u.fits)
