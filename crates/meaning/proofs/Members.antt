-- Membership: for each kind of entry, which forests it has, as document 01 says it, and some forests that are in no such entry.
-- Assumes nothing.
use mathlib.Core.Path.{◌≡◌, refl, ap, sym}
use mathlib.Core.Logic.{◌↔◌, ◌⊎◌, inl, inr}
use Prim.Native.Nat.{ℕ}
use native.Mathlib.Omega.{arith}
use Rattle.meaning.specs.Base.{At}
use Rattle.meaning.specs.Forests.{Forest, end, leaf, tree, join, trees}
use Rattle.meaning.specs.Types.{Entry, Table, Defs}
use Rattle.meaning.specs.Members.{Fits, nothing, text, inside, both, left, right, stop, more, once, again, without, with, named, Has}
use Rattle.meaning.proofs.Lists.{at_one, Grows, at_grows}
use Rattle.meaning.proofs.Forests.{join_end}

-- none or more forests with a property, joined
pub data Joined (P : Forest → Type 0) : Forest → Type 0 where
  none : Joined P end
  one_more : {g h : Forest} → P g → Joined P h → Joined P (join g h)

module _ {D : Defs} {T : Table} where
  -- an entry's forests are those of what stands there
  pub has : {e : ℕ} {x : Entry} {f : Forest} → At T e x → Fits D T x f → Has D T e f
  has p h = record { entry = _; there = p; fits = h }

  pub fits_at : {e : ℕ} {x : Entry} {f : Forest} → At T e x → Has D T e f → Fits D T x f
  fits_at p h = rw (at_one p h.there) h.fits

  -- what it takes to fit an entry, of each kind
  fits_empty : {f : Forest} → Fits D T Entry.empty f → f ≡ end
  fits_empty nothing = refl

  fits_string : {f : Forest} → Fits D T Entry.string f → (t : ℕ) × (f ≡ leaf t end)
  fits_string (text {t = t}) = (t, refl)

  fits_element : {l c : ℕ} {f : Forest} → Fits D T (Entry.element l c) f → (i : Forest) × (f ≡ tree l i end) × Has D T c i
  fits_element (inside p h) = (_, refl, has p h)

  fits_pair : {a b : ℕ} {f : Forest} → Fits D T (Entry.pair a b) f → (g : Forest) × (h : Forest) × (f ≡ join g h) × Has D T a g × Has D T b h
  fits_pair (both p q h k) = (_, _, refl, has p h, has q k)

  fits_union : {a b : ℕ} {f : Forest} → Fits D T (Entry.union a b) f → Has D T a f ⊎ Has D T b f
  fits_union (left p h) = inl (has p h)
  fits_union (right p h) = inr (has p h)

  fits_star : {a : ℕ} {f : Forest} → Fits D T (Entry.star a) f → Joined (Has D T a) f
  fits_star stop = none
  fits_star (more p h k) = one_more (has p h) (fits_star k)

  plus_joined : {a : ℕ} {f : Forest} → Fits D T (Entry.plus a) f → Joined (Has D T a) f
  plus_joined (once {f = f} p h) = rw (← join_end f) (one_more (has p h) none)
  plus_joined (again p h k) = one_more (has p h) (plus_joined k)

  fits_plus : {a : ℕ} {f : Forest} → Fits D T (Entry.plus a) f → (g : Forest) × (h : Forest) × (f ≡ join g h) × Has D T a g × Joined (Has D T a) h
  fits_plus (once {f = f} p h) = (f, end, sym (join_end f), has p h, none)
  fits_plus (again p h k) = (_, _, refl, has p h, plus_joined k)

  fits_opt : {a : ℕ} {f : Forest} → Fits D T (Entry.opt a) f → (f ≡ end) ⊎ Has D T a f
  fits_opt without = inl refl
  fits_opt (with p h) = inr (has p h)

  fits_name : {d c : ℕ} {f : Forest} → At D d c → Fits D T (Entry.name d) f → Has D T c f
  fits_name q (named {c = c} n p h) = rw (at_one q n) (has p h)

  star_of_lem : {a : ℕ} {f : Forest} → Joined (Has D T a) f → Fits D T (Entry.star a) f
  star_of_lem none = stop
  star_of_lem (one_more h k) = more h.there h.fits (star_of_lem k)

  plus_of : {a : ℕ} (g : Forest) {h : Forest} → Has D T a g → Joined (Has D T a) h → Fits D T (Entry.plus a) (join g h)
  plus_of g x none = rw (join_end g) (once x.there x.fits)
  plus_of g x (one_more {g = f} y k) = again x.there x.fits (plus_of f y k)

  union_of : {a b : ℕ} {f : Forest} → Has D T a f ⊎ Has D T b f → Fits D T (Entry.union a b) f
  union_of (inl x) = left x.there x.fits
  union_of (inr x) = right x.there x.fits

  opt_of : {a : ℕ} {f : Forest} → (f ≡ end) ⊎ Has D T a f → Fits D T (Entry.opt a) f
  opt_of (inl e) = rw e without
  opt_of (inr x) = with x.there x.fits

  module _ {e : ℕ} {f : Forest} where
    -- "() the empty one"
    pub has_empty : At T e Entry.empty → Has D T e f ↔ (f ≡ end)
    has_empty p = (λ h. fits_empty (fits_at p h), λ q. rw q (has p nothing))

    -- "String one text leaf"
    pub has_string : At T e Entry.string → Has D T e f ↔ ((t : ℕ) × (f ≡ leaf t end))
    has_string p = (λ h. fits_string (fits_at p h), λ q. rw q.1 (has p text))

    -- "l[T] one tree labelled l whose forest is in T"
    pub has_element : {l c : ℕ} → At T e (Entry.element l c) → Has D T e f ↔ ((i : Forest) × (f ≡ tree l i end) × Has D T c i)
    has_element p = (λ h. fits_element (fits_at p h), λ q. rw q.1 (has p (inside q.2.there q.2.fits)))

    -- "T,U a forest of T followed by one of U"
    pub has_pair : {a b : ℕ} → At T e (Entry.pair a b) → Has D T e f ↔ ((g : Forest) × (h : Forest) × (f ≡ join g h) × Has D T a g × Has D T b h)
    has_pair p = (λ h. fits_pair (fits_at p h), λ q. rw q.2 (has p (both q.3.there q.4.there q.3.fits q.4.fits)))

    -- "T|U either"
    pub has_union : {a b : ℕ} → At T e (Entry.union a b) → Has D T e f ↔ (Has D T a f ⊎ Has D T b f)
    has_union p = (λ h. fits_union (fits_at p h), λ q. has p (union_of q))

    -- "T* none or more forests of T joined"
    pub has_star : {a : ℕ} → At T e (Entry.star a) → Has D T e f ↔ Joined (Has D T a) f
    has_star p = (λ h. fits_star (fits_at p h), λ q. has p (star_of_lem q))

    -- "T+ one or more"
    pub has_plus : {a : ℕ} → At T e (Entry.plus a) → Has D T e f ↔ ((g : Forest) × (h : Forest) × (f ≡ join g h) × Has D T a g × Joined (Has D T a) h)
    has_plus p = (λ h. fits_plus (fits_at p h), λ q. rw q.2 (has p (plus_of q.0 q.3 q.4)))

    -- "T? none or one"
    pub has_opt : {a : ℕ} → At T e (Entry.opt a) → Has D T e f ↔ ((f ≡ end) ⊎ Has D T a f)
    has_opt p = (λ h. fits_opt (fits_at p h), λ q. has p (opt_of q))

    -- "a name has what its definition has"
    pub has_name : {d c : ℕ} → At T e (Entry.name d) → At D d c → Has D T e f ↔ Has D T c f
    has_name p n = (λ h. fits_name n (fits_at p h), λ q. has p (named n q.there q.fits))

  -- NOT MEMBERS. Two trees are not in a? where a is an element, nor any number of trees but none and one
  pub opt_few : {e a l c : ℕ} {f : Forest} → At T e (Entry.opt a) → At T a (Entry.element l c) → Has D T e f → (trees f ≡ 0) ⊎ (trees f ≡ 1)
  unfolding trees
  opt_few {a = a} {f = f} p q h = go ((has_opt p).0 h)
    where
      go : (f ≡ end) ⊎ Has D T a f → (trees f ≡ 0) ⊎ (trees f ≡ 1)
      go (inl x) = inl (ap trees x)
      go (inr x) = inr (ap trees ((has_element q).0 x).1)

  pub opt_not_two : {e a l c : ℕ} {f : Forest} → At T e (Entry.opt a) → At T a (Entry.element l c) → trees f ≡ 2 → Has D T e f → ⊥
  opt_not_two {f = f} p q n h = go (opt_few p q h)
    where
      go : (trees f ≡ 0) ⊎ (trees f ≡ 1) → ⊥
      go (inl x) = omega arith
      go (inr x) = omega arith

  -- a text is not in l[T], nor is a tree that holds a text in l[()]
  pub element_not_text : {e l c t : ℕ} {r : Forest} → At T e (Entry.element l c) → Has D T e (leaf t r) → ⊥
  element_not_text p h = let x = ((has_element p).0 h).1 in let z : ◌≡◌ {A = ℕ} 0 1 = cc in omega arith

  pub bare_not_filled : {e l c m t : ℕ} {r s : Forest} → At T e (Entry.element l c) → At T c Entry.empty → Has D T e (tree m (leaf t r) s) → ⊥
  bare_not_filled p q h =
      let x = (has_element p).0 h in
      let y = x.1 in
      let n = (has_empty q).0 x.2 in
      let z : ◌≡◌ {A = ℕ} 0 1 = cc in
      omega arith

  -- X = l[X] has no forest at all
  pub endless_none : {d e l x : ℕ} (f : Forest) → At D d e → At T e (Entry.element l x) → At T x (Entry.name d) → Has D T e f → ⊥
  endless_none end n p q h = let y = ((has_element p).0 h).1 in let z : ◌≡◌ {A = ℕ} 0 1 = cc in omega arith
  endless_none (leaf t r) n p q h = element_not_text p h
  endless_none (tree m i r) n p q h =
      let y = (has_element p).0 h in
      let s = y.1 in
      let j : y.0 ≡ i = cc in
      endless_none i n p q (rw j at ((has_name q n).0 y.2))

-- membership is kept when the table grows
pub fits_grows : {T U : Table} {D : Defs} {x : Entry} {f : Forest} → Grows T U → Fits D T x f → Fits D U x f
fits_grows g nothing = nothing
fits_grows g text = text
fits_grows g (inside p h) = inside (at_grows g p) (fits_grows g h)
fits_grows g (both p q h k) = both (at_grows g p) (at_grows g q) (fits_grows g h) (fits_grows g k)
fits_grows g (left p h) = left (at_grows g p) (fits_grows g h)
fits_grows g (right p h) = right (at_grows g p) (fits_grows g h)
fits_grows g stop = stop
fits_grows g (more p h k) = more (at_grows g p) (fits_grows g h) (fits_grows g k)
fits_grows g (once p h) = once (at_grows g p) (fits_grows g h)
fits_grows g (again p h k) = again (at_grows g p) (fits_grows g h) (fits_grows g k)
fits_grows g without = without
fits_grows g (with p h) = with (at_grows g p) (fits_grows g h)
fits_grows g (named d p h) = named d (at_grows g p) (fits_grows g h)

pub has_grows : {T U : Table} {D : Defs} {e : ℕ} {f : Forest} → Grows T U → Has D T e f → Has D U e f
has_grows g h = record { entry = h.entry; there = at_grows g h.there; fits = fits_grows g h.fits }
