-- "Which finite forests a type has" (S section 3).
-- Assumes nothing.
use Rattle.std.specs.Prelude.{ℕ}
use Rattle.meaning.specs.Base.{At}
use Rattle.meaning.specs.Forests.{Forest, end, leaf, tree, join}
use Rattle.meaning.specs.Types.{Entry, Table, Defs}

-- The forests of an entry of a table with its definitions: the least such family, so a name is "unfolded finitely often".
pub data Fits (D : Defs) (T : Table) : Entry → Forest → Type 0 where
  -- "() the empty one"
  nothing : Fits D T Entry.empty end
  -- "String one text leaf"
  text : {t : ℕ} → Fits D T Entry.string (leaf t end)
  -- "l[T] one tree labelled l whose forest is in T"
  inside : {l c : ℕ} {x : Entry} {f : Forest} → At T c x → Fits D T x f → Fits D T (Entry.element l c) (tree l f end)
  -- "T,U a forest of T followed by one of U"
  both : {a b : ℕ} {x y : Entry} {f g : Forest} → At T a x → At T b y → Fits D T x f → Fits D T y g → Fits D T (Entry.pair a b) (join f g)
  -- "T|U either"
  left : {a b : ℕ} {x : Entry} {f : Forest} → At T a x → Fits D T x f → Fits D T (Entry.union a b) f
  right : {a b : ℕ} {x : Entry} {f : Forest} → At T b x → Fits D T x f → Fits D T (Entry.union a b) f
  -- "T* none or more forests of T joined"
  stop : {a : ℕ} → Fits D T (Entry.star a) end
  more : {a : ℕ} {x : Entry} {f g : Forest} → At T a x → Fits D T x f → Fits D T (Entry.star a) g → Fits D T (Entry.star a) (join f g)
  -- "T+ one or more"
  once : {a : ℕ} {x : Entry} {f : Forest} → At T a x → Fits D T x f → Fits D T (Entry.plus a) f
  again : {a : ℕ} {x : Entry} {f g : Forest} → At T a x → Fits D T x f → Fits D T (Entry.plus a) g → Fits D T (Entry.plus a) (join f g)
  -- "T? none or one"
  without : {a : ℕ} → Fits D T (Entry.opt a) end
  with : {a : ℕ} {x : Entry} {f : Forest} → At T a x → Fits D T x f → Fits D T (Entry.opt a) f
  -- "a name has what its definition has"
  named : {d c : ℕ} {x : Entry} {f : Forest} → At D d c → At T c x → Fits D T x f → Fits D T (Entry.name d) f

-- the forest f is in entry e
pub record Has (D : Defs) (T : Table) (e : ℕ) (f : Forest) : Type 0 where
  pub entry : Entry
  pub there : At T e entry
  pub fits : Fits D T entry f
