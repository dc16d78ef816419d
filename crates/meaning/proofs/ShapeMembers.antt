-- The forests of a shape: a shape has what its entry has, both ways. What the rules on shapes need of a shape's leaves.
-- Assumes nothing.
use mathlib.Core.Path.{subst}
use Prim.Native.Nat.{ℕ}
use Rattle.meaning.specs.Base.{At}
use Rattle.meaning.specs.Forests as Forests
use Rattle.meaning.specs.Forests.{Forest, end, leaf, join}
use Rattle.meaning.specs.Types as Types
use Rattle.meaning.specs.Types.{Table, Defs}
use Rattle.meaning.specs.Members.{Fits, Has}
use Rattle.meaning.specs.Shapes.{Shape, empty, string, element, pair, union, star, plus, opt, name}
use Rattle.meaning.proofs.Lists.{at_one, Grows, at_grows}
use Rattle.meaning.proofs.Members.{has, fits_at, has_grows}
use Rattle.meaning.proofs.Shaped.{Shaped, is_empty, is_string, is_element, is_pair, is_union, is_star, is_plus, is_opt, is_name}

-- the forests of a shape
pub data Member (D : Defs) (T : Table) : Shape → Forest → Type 0 where
  nothing : {e : ℕ} → Member D T (empty e) end
  text : {e t : ℕ} → Member D T (string e) (leaf t end)
  inside : {e l c : ℕ} {f : Forest} → Has D T c f → Member D T (element e l c) (Forests.tree l f end)
  both : {s t : Shape} {f g : Forest} → Member D T s f → Member D T t g → Member D T (pair s t) (join f g)
  left : {s t : Shape} {f : Forest} → Member D T s f → Member D T (union s t) f
  right : {s t : Shape} {f : Forest} → Member D T t f → Member D T (union s t) f
  stop : {s : Shape} → Member D T (star s) end
  more : {s : Shape} {f g : Forest} → Member D T s f → Member D T (star s) g → Member D T (star s) (join f g)
  once : {s : Shape} {f : Forest} → Member D T s f → Member D T (plus s) f
  again : {s : Shape} {f g : Forest} → Member D T s f → Member D T (plus s) g → Member D T (plus s) (join f g)
  without : {s : Shape} → Member D T (opt s) end
  with : {s : Shape} {f : Forest} → Member D T s f → Member D T (opt s) f
  named : {s : Shape} {f : Forest} → Member D T s f → Member D T (name s) f

pub member_grows : {D : Defs} {T U : Table} {s : Shape} {f : Forest} → Grows T U → Member D T s f → Member D U s f
member_grows g nothing = nothing
member_grows g text = text
member_grows g (inside h) = inside (has_grows g h)
member_grows g (both h k) = both (member_grows g h) (member_grows g k)
member_grows g (left h) = left (member_grows g h)
member_grows g (right h) = right (member_grows g h)
member_grows g stop = stop
member_grows g (more h k) = more (member_grows g h) (member_grows g k)
member_grows g (once h) = once (member_grows g h)
member_grows g (again h k) = again (member_grows g h) (member_grows g k)
member_grows g without = without
member_grows g (with h) = with (member_grows g h)
member_grows g (named h) = named (member_grows g h)

-- the entries at a shape's leaves are what the shape says
unfoldable pub Leaves : Table → Shape → Type 0
Leaves T (empty e) = At T e Types.empty
Leaves T (string e) = At T e Types.string
Leaves T (element e l c) = At T e (Types.element l c)
Leaves T (pair s t) = Leaves T s × Leaves T t
Leaves T (union s t) = Leaves T s × Leaves T t
Leaves T (star s) = Leaves T s
Leaves T (plus s) = Leaves T s
Leaves T (opt s) = Leaves T s
Leaves T (name s) = Leaves T s

pub leaves_grows : {T U : Table} (s : Shape) → Grows T U → Leaves T s → Leaves U s
unfolding Leaves
leaves_grows (empty e) g h = at_grows g h
leaves_grows (string e) g h = at_grows g h
leaves_grows (element e l c) g h = at_grows g h
leaves_grows (pair s t) g h = (leaves_grows s g h.0, leaves_grows t g h.1)
leaves_grows (union s t) g h = (leaves_grows s g h.0, leaves_grows t g h.1)
leaves_grows (star s) g h = leaves_grows s g h
leaves_grows (plus s) g h = leaves_grows s g h
leaves_grows (opt s) g h = leaves_grows s g h
leaves_grows (name s) g h = leaves_grows s g h

pub shaped_leaves : {D : Defs} {T : Table} {e : ℕ} {s : Shape} → Shaped D T e s → Leaves T s
unfolding Leaves
shaped_leaves (is_empty h) = h
shaped_leaves (is_string h) = h
shaped_leaves (is_element h) = h
shaped_leaves (is_pair h p q) = (shaped_leaves p, shaped_leaves q)
shaped_leaves (is_union h p q) = (shaped_leaves p, shaped_leaves q)
shaped_leaves (is_star h p) = shaped_leaves p
shaped_leaves (is_plus h p) = shaped_leaves p
shaped_leaves (is_opt h p) = shaped_leaves p
shaped_leaves (is_name h d p) = shaped_leaves p

module _ (D : Defs) (T : Table) where
  to_empty : {e : ℕ} {f : Forest} → Fits D T Types.empty f → Member D T (empty e) f
  to_empty Fits.nothing = nothing

  to_string : {e : ℕ} {f : Forest} → Fits D T Types.string f → Member D T (string e) f
  to_string Fits.text = text

  to_element : {e l c : ℕ} {f : Forest} → Fits D T (Types.element l c) f → Member D T (element e l c) f
  to_element (Fits.inside p h) = inside (has p h)

  -- every forest of the entry a is one of the shape s
  abbrev Into : ℕ → Shape → Type 0
  Into a s = (g : Forest) → Has D T a g → Member D T s g

  to_pair : {a b : ℕ} {s t : Shape} {f : Forest} → Into a s → Into b t → Fits D T (Types.pair a b) f → Member D T (pair s t) f
  to_pair m n (Fits.both p q h k) = both (m _ (has p h)) (n _ (has q k))

  to_union : {a b : ℕ} {s t : Shape} {f : Forest} → Into a s → Into b t → Fits D T (Types.union a b) f → Member D T (union s t) f
  to_union m n (Fits.left p h) = left (m _ (has p h))
  to_union m n (Fits.right p h) = right (n _ (has p h))

  to_star : {a : ℕ} {s : Shape} {f : Forest} → Into a s → Fits D T (Types.star a) f → Member D T (star s) f
  to_star m Fits.stop = stop
  to_star m (Fits.more p h k) = more (m _ (has p h)) (to_star m k)

  to_plus : {a : ℕ} {s : Shape} {f : Forest} → Into a s → Fits D T (Types.plus a) f → Member D T (plus s) f
  to_plus m (Fits.once p h) = once (m _ (has p h))
  to_plus m (Fits.again p h k) = again (m _ (has p h)) (to_plus m k)

  to_opt : {a : ℕ} {s : Shape} {f : Forest} → Into a s → Fits D T (Types.opt a) f → Member D T (opt s) f
  to_opt m Fits.without = without
  to_opt m (Fits.with p h) = with (m _ (has p h))

  to_name : {d c : ℕ} {s : Shape} {f : Forest} → At D d c → Into c s → Fits D T (Types.name d) f → Member D T (name s) f
  to_name p m (Fits.named {f = f} q r h) = named (m f (subst (λ x. Has D T x f) (at_one q p) (has r h)))

  -- the shape of an entry has what the entry has
  pub to_member : {e : ℕ} {s : Shape} {f : Forest} → Shaped D T e s → Has D T e f → Member D T s f
  to_member (is_empty p) h = to_empty (fits_at p h)
  to_member (is_string p) h = to_string (fits_at p h)
  to_member (is_element p) h = to_element (fits_at p h)
  to_member (is_pair p a b) h = to_pair (λ g k. to_member a k) (λ g k. to_member b k) (fits_at p h)
  to_member (is_union p a b) h = to_union (λ g k. to_member a k) (λ g k. to_member b k) (fits_at p h)
  to_member (is_star p a) h = to_star (λ g k. to_member a k) (fits_at p h)
  to_member (is_plus p a) h = to_plus (λ g k. to_member a k) (fits_at p h)
  to_member (is_opt p a) h = to_opt (λ g k. to_member a k) (fits_at p h)
  to_member (is_name p d a) h = to_name d (λ g k. to_member a k) (fits_at p h)

  -- every forest of the shape s is one of the entry a
  abbrev From : ℕ → Shape → Type 0
  From a s = (g : Forest) → Member D T s g → Has D T a g

  from_star : {a : ℕ} {s : Shape} {f : Forest} → From a s → Member D T (star s) f → Fits D T (Types.star a) f
  from_star m stop = Fits.stop
  from_star m (more h k) = let r = m _ h in Fits.more r.there r.fits (from_star m k)

  from_plus : {a : ℕ} {s : Shape} {f : Forest} → From a s → Member D T (plus s) f → Fits D T (Types.plus a) f
  from_plus m (once h) = let r = m _ h in Fits.once r.there r.fits
  from_plus m (again h k) = let r = m _ h in Fits.again r.there r.fits (from_plus m k)

  -- and the entry has what its shape has
  pub from_member : {e : ℕ} {s : Shape} {f : Forest} → Shaped D T e s → Member D T s f → Has D T e f
  from_member (is_empty p) nothing = has p Fits.nothing
  from_member (is_string p) text = has p Fits.text
  from_member (is_element p) (inside h) = has p (Fits.inside h.there h.fits)
  from_member (is_pair p a b) (both h k) =
      let r = from_member a h in
      let q = from_member b k in
      has p (Fits.both r.there q.there r.fits q.fits)
  from_member (is_union p a b) (left h) = let r = from_member a h in has p (Fits.left r.there r.fits)
  from_member (is_union p a b) (right h) = let r = from_member b h in has p (Fits.right r.there r.fits)
  from_member (is_star p a) h = has p (from_star (λ g k. from_member a k) h)
  from_member (is_plus p a) h = has p (from_plus (λ g k. from_member a k) h)
  from_member (is_opt p a) without = has p Fits.without
  from_member (is_opt p a) (with h) = let r = from_member a h in has p (Fits.with r.there r.fits)
  from_member (is_name p d a) (named h) = let r = from_member a h in has p (Fits.named d r.there r.fits)
