-- What the rules on types keep of the forests: quant counts the trees, prime has each tree, filter has the selection, content what stands inside.
-- Filter's fact is shown once over the test word.
-- Assumes nothing.
use mathlib.Core.Path.{◌≡◌, refl}
use mathlib.Core.Bool.{Bool, true, false, cond}
use Prim.Native.Nat.{ℕ}
use native.Mathlib.Omega.{arith}
use lib.Dec.{ltb, eqb}
use lib.ListN.{length}
use borrow.Author.Tests.{eqb-true}
use Rattle.meaning.specs.Base.{ok, At}
use Rattle.meaning.specs.Forests as Forests
use Rattle.meaning.specs.Forests.{Forest, end, leaf, join, trees, select, keep, passes, Head, children}
use Rattle.meaning.specs.Types as Types
use Rattle.meaning.specs.Types.{Entry, Table, Defs}
use Rattle.meaning.specs.Members.{Fits, Has}
use Rattle.meaning.specs.Shapes.{Shape, empty, string, element, pair, union, star, plus, opt, name, shape, quant, maybe, more, any, none, many}
use Rattle.meaning.specs.Rules.{append_if, append, prime, content, sift, filter}
use Rattle.meaning.proofs.Lists.{at_last, Grows, grows_refl, grows_trans, grows_one, at_grows}
use Rattle.meaning.proofs.Ends.{Ends, gives, stops, Anyhow, ends_after, ends_map}
use Rattle.meaning.proofs.Forests.{join_end, trees_join, select_join, select_all, Each, each_join, each_map}
use Rattle.meaning.proofs.Members.{has, has_grows}
use Rattle.meaning.proofs.Shaped.{Shaped, is_empty, is_string, is_element, is_pair, is_union, is_star, is_plus, is_opt, is_name}
use Rattle.meaning.proofs.ShapeMembers.{Member, member_grows, Leaves, leaves_grows, shaped_leaves, to_member}
use Rattle.meaning.proofs.Classes.{Fitting, fitting_comma, fitting_left, fitting_right, fitting_never, fitting_once, fitting_again}

-- QUANT: the number of a member's trees fits the class
pub quant_counts : {D : Defs} {T : Table} {s : Shape} {f : Forest} → Member D T s f → Fitting (quant s) (trees f)
unfolding quant trees none many
quant_counts Member.nothing = record { empty = λ p. refl; several = λ p. absurd (omega arith) }
quant_counts Member.text = record { empty = λ p. absurd (omega arith); several = λ p. absurd (omega arith) }
quant_counts (Member.inside h) = record { empty = λ p. absurd (omega arith); several = λ p. absurd (omega arith) }
quant_counts (Member.both {f = f} {g = g} h k) = rw (trees_join f g) (fitting_comma (quant_counts h) (quant_counts k))
quant_counts (Member.left {t = t} h) = fitting_left (quant t) (quant_counts h)
quant_counts (Member.right {s = s} h) = fitting_right (quant s) (quant_counts h)
quant_counts (Member.stop {s = s}) = fitting_never (quant s) any refl
quant_counts (Member.more {f = f} {g = g} h k) = rw (trees_join f g) (fitting_again any (trees g) refl (quant_counts h))
quant_counts (Member.once h) = fitting_once more (quant_counts h)
quant_counts (Member.again {f = f} {g = g} h k) = rw (trees_join f g) (fitting_again more (trees g) refl (quant_counts h))
quant_counts (Member.without {s = s}) = fitting_never (quant s) maybe refl
quant_counts (Member.with h) = fitting_once maybe (quant_counts h)
quant_counts (Member.named h) = quant_counts h

-- APPEND: the table grows, and the entry is there
pub record Appended (T : Table) (x : Entry) (r : Table × ℕ) : Type 0 where
  pub grows : Grows T r.0
  pub there : At r.0 r.1 x

module _ (room n : ℕ) where
  pub append_there : (x : Entry) (T : Table) → Ends (Appended T x) Anyhow (append room n x T)
  append_there x T = go (ltb (length T) room)
    where
      go : (b : Bool) → Ends (Appended T x) Anyhow (append_if room n b x T)
      go true = gives (record { grows = grows_one T x; there = at_last T x })
      go false = stops tt

module _ {D : Defs} {T : Table} {e a b : ℕ} {f : Forest} where
  pub has_left : At T e (Types.union a b) → Has D T a f → Has D T e f
  has_left p h = has p (Fits.left h.there h.fits)

  pub has_right : At T e (Types.union a b) → Has D T b f → Has D T e f
  has_right p h = has p (Fits.right h.there h.fits)

-- a property of forests that the empty one has and joining keeps goes from the parts of a shape to the shape
module _ (D : Defs) (T : Table) (Q : Forest → Type 0) where
  abbrev All : Shape → Type 0
  All s = (f : Forest) → Member D T s f → Q f

  all_empty : {e : ℕ} → Q end → All (empty e)
  all_empty z f Member.nothing = z

  all_string : {e : ℕ} → ((t : ℕ) → Q (leaf t end)) → All (string e)
  all_string h f (Member.text {t = t}) = h t

  all_element : {e l c : ℕ} → ((i : Forest) → Has D T c i → Q (Forests.tree l i end)) → All (element e l c)
  all_element h f (Member.inside k) = h _ k

  all_union : {s t : Shape} → All s → All t → All (union s t)
  all_union p q f (Member.left h) = p f h
  all_union p q f (Member.right h) = q f h

  all_name : {s : Shape} → All s → All (name s)
  all_name p f (Member.named h) = p f h

  all_opt : {s : Shape} → Q end → All s → All (opt s)
  all_opt z p f Member.without = z
  all_opt z p f (Member.with h) = p f h

  module _ (c : (f g : Forest) → Q f → Q g → Q (join f g)) where
    all_pair : {s t : Shape} → All s → All t → All (pair s t)
    all_pair p q f (Member.both h k) = c _ _ (p _ h) (q _ k)

    all_star : {s : Shape} → Q end → All s → All (star s)
    all_star z p f Member.stop = z
    all_star z p f (Member.more h k) = c _ _ (p _ h) (all_star z p _ k)

    all_plus : {s : Shape} → All s → All (plus s)
    all_plus p f (Member.once h) = p f h
    all_plus p f (Member.again h k) = c _ _ (p _ h) (all_plus p _ k)

-- ATOMS, and (): what a tree variable has. A for over () binds one to entry 0.
unfoldable pub Flat : Shape → Type 0
Flat (empty e) = Unit {0}
Flat (string e) = Unit {0}
Flat (element e l c) = Unit {0}
Flat (pair s t) = ⊥
Flat (union s t) = Flat s × Flat t
Flat (star s) = ⊥
Flat (plus s) = ⊥
Flat (opt s) = ⊥
Flat (name s) = ⊥

-- the entry has a shape of unions of atoms and of ()
pub record Unions (D : Defs) (T : Table) (e : ℕ) : Type 0 where
  pub form : Shape
  pub shaped : Shaped D T e form
  pub flat : Flat form

pub shaped_grows : {D : Defs} {T U : Table} {e : ℕ} {s : Shape} → Grows T U → Shaped D T e s → Shaped D U e s
shaped_grows g (is_empty p) = is_empty (at_grows g p)
shaped_grows g (is_string p) = is_string (at_grows g p)
shaped_grows g (is_element p) = is_element (at_grows g p)
shaped_grows g (is_pair p a b) = is_pair (at_grows g p) (shaped_grows g a) (shaped_grows g b)
shaped_grows g (is_union p a b) = is_union (at_grows g p) (shaped_grows g a) (shaped_grows g b)
shaped_grows g (is_star p a) = is_star (at_grows g p) (shaped_grows g a)
shaped_grows g (is_plus p a) = is_plus (at_grows g p) (shaped_grows g a)
shaped_grows g (is_opt p a) = is_opt (at_grows g p) (shaped_grows g a)
shaped_grows g (is_name p d a) = is_name (at_grows g p) d (shaped_grows g a)

pub unions_grows : {D : Defs} {T U : Table} {e : ℕ} → Grows T U → Unions D T e → Unions D U e
unions_grows g h = record { form = h.form; shaped = shaped_grows g h.shaped; flat = h.flat }

-- what prime, filter and content keep, of a table T and a shape s, in the table and entry that they answer
pub record Primed (D : Defs) (T : Table) (s : Shape) (r : Table × ℕ) : Type 0 where
  pub grows : Grows T r.0
  pub unions : Unions D r.0 r.1
  pub each : (f : Forest) → Member D T s f → Each (Has D r.0 r.1) f

pub record Sifted (D : Defs) (w : ℕ) (T : Table) (s : Shape) (r : Table × ℕ) : Type 0 where
  pub grows : Grows T r.0
  pub selects : (f : Forest) → Member D T s f → Has D r.0 r.1 (select w f)

pub record Opened (D : Defs) (T : Table) (s : Shape) (r : Table × ℕ) : Type 0 where
  pub grows : Grows T r.0
  pub inside : (f : Forest) → Member D T s f → Has D r.0 r.1 (children f)

has_end : {D : Defs} {T : Table} {e : ℕ} {f : Forest} → Has D T e f → Has D T e (join f end)
has_end h = rw join_end h

module _ (room n : ℕ) (D : Defs) where
  -- both sides of a union of primes, for a shape whose forests are made of those of the sides
  abbrev Joining : Table → Shape → Shape → Shape → Type 1
  Joining T s t u =
      (P : Forest → Type 0) → ((f : Forest) → Member D T s f → Each P f) → ((f : Forest) → Member D T t f → Each P f) → (f : Forest) → Member D T u f → Each P f

  prime_two : (T : Table) (s t u : Shape) (a b p : Table × ℕ) → Joining T s t u → Primed D T s a → Primed D a.0 t b → Appended b.0 (Types.union a.1 b.1) p → Primed D T u p
  unfolding Flat
  prime_two T s t u a b p j h k l =
      let g = grows_trans k.grows l.grows in
      let x = unions_grows g h.unions in
      let y = unions_grows l.grows k.unions in
      record {
        grows = grows_trans h.grows g;
        unions = record { form = union x.form y.form; shaped = is_union l.there x.shaped y.shaped; flat = (x.flat, y.flat) };
        each = j (Has D p.0 p.1) (λ f m. each_map _ _ (λ t z. has_left l.there (has_grows g z)) f (h.each f m)) (λ f m. each_map _ _ (λ t z. has_right l.there (has_grows l.grows z)) f (k.each f (member_grows h.grows m)));
      }

  prime_leaf : {T : Table} {s : Shape} (e : ℕ) → Shaped D T e s → Flat s → ((f : Forest) → Member D T s f → Each (Has D T e) f) → Ends (Primed D T s) Anyhow (ok (T, e))
  prime_leaf {s = s} e h k m = gives (record { grows = grows_refl; unions = record { form = s; shaped = h; flat = k }; each = m })

  -- PRIME: each tree of a member of T is in prime(T), as a forest of one tree
  pub prime_each : (s : Shape) (T : Table) → Leaves T s → Ends (Primed D T s) Anyhow (prime room n s T)
  unfolding prime Leaves Each Flat
  prime_each (empty e) T h = prime_leaf e (is_empty h) tt (all_empty D T _ tt)
  prime_each (string e) T h = prime_leaf e (is_string h) tt (all_string D T _ (λ t. (has h Fits.text, tt)))
  prime_each (element e l c) T h = prime_leaf e (is_element h) tt (all_element D T _ (λ i k. (has h (Fits.inside k.there k.fits), tt)))
  prime_each (pair s t) T h =
      ends_after (prime_each s T h.0) λ U a x. ends_after (prime_each t U (leaves_grows t x.grows h.1)) λ W b y.
      ends_map (append_there room n _ _) λ p z. prime_two T s t _ (U, a) (W, b) p (λ P. all_pair D T (Each P) (each_join P)) x y z
  prime_each (union s t) T h =
      ends_after (prime_each s T h.0) λ U a x. ends_after (prime_each t U (leaves_grows t x.grows h.1)) λ W b y.
      ends_map (append_there room n _ _) λ p z. prime_two T s t _ (U, a) (W, b) p (λ P. all_union D T (Each P)) x y z
  prime_each (star s) T h = ends_map (prime_each s T h) λ p x. record { grows = x.grows; unions = x.unions; each = all_star D T _ (each_join (Has D p.0 p.1)) tt x.each }
  prime_each (plus s) T h = ends_map (prime_each s T h) λ p x. record { grows = x.grows; unions = x.unions; each = all_plus D T _ (each_join (Has D p.0 p.1)) x.each }
  prime_each (opt s) T h = ends_map (prime_each s T h) λ p x. record { grows = x.grows; unions = x.unions; each = all_opt D T _ tt x.each }
  prime_each (name s) T h = ends_map (prime_each s T h) λ p x. record { grows = x.grows; unions = x.unions; each = all_name D T _ x.each }

  -- an atom that is kept or not, beside a tree that is
  kept_atom : (T : Table) (w : ℕ) (h : Head) (e : ℕ) (f : Forest) → At T 0 Types.empty → Has D T e f → Has D T (cond (passes w h) e 0) (join (keep (passes w h) f) end)
  unfolding join
  kept_atom T w h e f z k = go (passes w h)
    where
      go : (b : Bool) → Has D T (cond b e 0) (join (keep b f) end)
      go true = has_end k
      go false = has z Fits.nothing

  -- the selections of the parts of a shape, and those of the shape
  module _ (w : ℕ) (T U : Table) where
    abbrev Selects : Shape → ℕ → Type 0
    Selects s a = (f : Forest) → Member D T s f → Has D U a (select w f)

    select_pair : {s t : Shape} {e a b : ℕ} → At U e (Types.pair a b) → Selects s a → Selects t b → Selects (pair s t) e
    select_pair p h k f (Member.both x y) =
        let r = h _ x in
        let q = k _ y in
        rw select_join (has p (Fits.both r.there q.there r.fits q.fits))

    select_star : {s : Shape} {a : ℕ} → Selects s a → (f : Forest) → Member D T (star s) f → Fits D U (Types.star a) (select w f)
    unfolding select
    select_star h f Member.stop = Fits.stop
    select_star h f (Member.more x y) = let r = h _ x in rw select_join (Fits.more r.there r.fits (select_star h _ y))

    select_plus : {s : Shape} {a : ℕ} → Selects s a → (f : Forest) → Member D T (plus s) f → Fits D U (Types.plus a) (select w f)
    select_plus h f (Member.once x) = let r = h _ x in Fits.once r.there r.fits
    select_plus h f (Member.again x y) = let r = h _ x in rw select_join (Fits.again r.there r.fits (select_plus h _ y))

    select_opt : {s : Shape} {a : ℕ} → Selects s a → (f : Forest) → Member D T (opt s) f → Fits D U (Types.opt a) (select w f)
    unfolding select
    select_opt h f Member.without = Fits.without
    select_opt h f (Member.with x) = let r = h _ x in Fits.with r.there r.fits

  -- one part, then an entry for it
  sift_one : (w : ℕ) (T : Table) (s u : Shape) (a p : Table × ℕ) (x : Entry) → Sifted D w T s a → Appended a.0 x p
      → (((f : Forest) → Member D T s f → Has D p.0 a.1 (select w f)) → (f : Forest) → Member D T u f → Fits D p.0 x (select w f)) → Sifted D w T u p
  sift_one w T s u a p x h k m =
      record { grows = grows_trans h.grows k.grows; selects = λ f i. has k.there (m (λ g j. has_grows k.grows (h.selects g j)) f i) }

  -- FILTER, once over the test word: f in T has its selection in filter(T)
  pub sift_selects : (w : ℕ) (s : Shape) (T : Table) → At T 0 Types.empty → Leaves T s → Ends (Sifted D w T s) Anyhow (sift room n w s T)
  unfolding sift Leaves select
  sift_selects w (empty e) T z h = gives (record { grows = grows_refl; selects = all_empty D T _ (has h Fits.nothing) })
  sift_selects w (string e) T z h = gives (record { grows = grows_refl; selects = all_string D T _ (λ t. kept_atom T w Forests.text e (leaf t end) z (has h Fits.text)) })
  sift_selects w (element e l c) T z h =
      gives (record { grows = grows_refl; selects = all_element D T _ (λ i k. kept_atom T w (Forests.label l) e (Forests.tree l i end) z (has h (Fits.inside k.there k.fits))) })
  sift_selects w (pair s t) T z h =
      ends_after (sift_selects w s T z h.0) λ U a x. ends_after (sift_selects w t U (at_grows x.grows z) (leaves_grows t x.grows h.1)) λ W b y. ends_map (append_there room n _ _) λ p q.
      let g = grows_trans y.grows q.grows in
      record {
        grows = grows_trans x.grows g;
        selects = select_pair w T p.0 q.there (λ f m. has_grows g (x.selects f m)) (λ f m. has_grows q.grows (y.selects f (member_grows x.grows m)));
      }
  sift_selects w (union s t) T z h =
      ends_after (sift_selects w s T z h.0) λ U a x. ends_after (sift_selects w t U (at_grows x.grows z) (leaves_grows t x.grows h.1)) λ W b y. ends_map (append_there room n _ _) λ p q.
      let g = grows_trans y.grows q.grows in
      record {
        grows = grows_trans x.grows g;
        selects = all_union D T _ (λ f m. has_left q.there (has_grows g (x.selects f m))) (λ f m. has_right q.there (has_grows q.grows (y.selects f (member_grows x.grows m))));
      }
  sift_selects w (star s) T z h = ends_after (sift_selects w s T z h) λ U a x. ends_map (append_there room n _ _) λ p q. sift_one w T s _ (U, a) p _ x q (select_star w T p.0)
  sift_selects w (plus s) T z h = ends_after (sift_selects w s T z h) λ U a x. ends_map (append_there room n _ _) λ p q. sift_one w T s _ (U, a) p _ x q (select_plus w T p.0)
  sift_selects w (opt s) T z h = ends_after (sift_selects w s T z h) λ U a x. ends_map (append_there room n _ _) λ p q. sift_one w T s _ (U, a) p _ x q (select_opt w T p.0)
  sift_selects w (name s) T z h = ends_map (sift_selects w s T z h) λ p x. record { grows = x.grows; selects = all_name D T _ x.selects }

  -- CONTENT: what stands inside the trees of a member
  pub content_opens : (s : Shape) (T : Table) → At T 0 Types.empty → Flat s → Ends (Opened D T s) Anyhow (content room n s T)
  unfolding content Flat children
  content_opens (empty e) T z h = gives (record { grows = grows_refl; inside = all_empty D T _ (has z Fits.nothing) })
  content_opens (string e) T z h = gives (record { grows = grows_refl; inside = all_string D T _ (λ t. has z Fits.nothing) })
  content_opens (element e l c) T z h = gives (record { grows = grows_refl; inside = all_element D T _ (λ i k. has_end k) })
  content_opens (pair s t) T z h = absurd h
  content_opens (union s t) T z h =
      ends_after (content_opens s T z h.0) λ U a x. ends_after (content_opens t U (at_grows x.grows z) h.1) λ W b y. ends_map (append_there room n _ _) λ p q.
      let g = grows_trans y.grows q.grows in
      record {
        grows = grows_trans x.grows g;
        inside = all_union D T _ (λ f m. has_left q.there (has_grows g (x.inside f m))) (λ f m. has_right q.there (has_grows q.grows (y.inside f (member_grows x.grows m))));
      }
  content_opens (star s) T z h = absurd h
  content_opens (plus s) T z h = absurd h
  content_opens (opt s) T z h = absurd h
  content_opens (name s) T z h = absurd h

  -- test 0 answers the entry itself; any other goes by the shape
  pub record Filtered (w : ℕ) (T : Table) (e : ℕ) (r : Table × ℕ) : Type 0 where
    pub grows : Grows T r.0
    pub selects : (f : Forest) → Has D T e f → Has D r.0 r.1 (select w f)

  pub filter_selects : (w e : ℕ) (T : Table) → At T 0 Types.empty → Shaped D T e (shape D T e) → Ends (Filtered w T e) Anyhow (filter room n D w e T)
  unfolding filter
  filter_selects w e T z h = go (eqb w 0) refl
    where
      go : (b : Bool) → eqb w 0 ≡ b → Ends (Filtered w T e) Anyhow (elim b [ true ↦ ok (T, e) | false ↦ sift room n w (shape D T e) T ])
      go true q = gives {a = (T, e)} (record { grows = grows_refl; selects = λ f k. rw (eqb-true w 0 q, select_all f) k })
      go false q = ends_map (sift_selects w (shape D T e) T z (shaped_leaves h)) λ r k. record { grows = k.grows; selects = λ f m. k.selects f (to_member D T h m) }
