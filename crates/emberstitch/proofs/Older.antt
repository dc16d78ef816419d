-- Membership in a table that grew: a forest that is in an entry which was there before was in it before.
-- Assumes nothing.
use mathlib.Core.Path.{subst}
use Prim.Native.Nat.{ℕ, zero, suc, ◌<◌}
use native.Mathlib.Omega.{arith}
use lib.ListN.{length}
use Rattle.meaning.specs.Base.{At}
use Rattle.meaning.specs.Forests.{Forest}
use Rattle.meaning.specs.Types.{Entry, Table, Defs}
use Rattle.meaning.specs.Formed as Formed
use Rattle.meaning.specs.Formed.{Formed, Lower}
use Rattle.meaning.specs.Members.{Fits, Has}
use Rattle.meaning.proofs.Lists.{at_one, at_low, Grows}
use Rattle.meaning.proofs.Grow.{at_older}

-- what an entry names has a number below n
Below : ℕ → Entry → Type 0
Below n Entry.empty = Unit {0}
Below n Entry.string = Unit {0}
Below n (Entry.element l c) = c < n
Below n (Entry.pair a b) = (a < n) × (b < n)
Below n (Entry.union a b) = (a < n) × (b < n)
Below n (Entry.star a) = a < n
Below n (Entry.plus a) = a < n
Below n (Entry.opt a) = a < n
Below n (Entry.name d) = Unit {0}

lower_below : {n m : ℕ} {x : Entry} → n < m → Lower n x → Below m x
unfolding Below
lower_below h (Formed.element i j k) = omega arith
lower_below h (Formed.pair i j) = (omega arith, omega arith)
lower_below h (Formed.union i j) = (omega arith, omega arith)
lower_below h (Formed.star i) = omega arith
lower_below h (Formed.plus i) = omega arith
lower_below h (Formed.opt i) = omega arith
lower_below h (Formed.name i) = tt

module _ {D : Defs} {T U : Table} (F : Formed D T) (g : Grows T U) where
  below : (e : ℕ) (x : Entry) → At T e x → Below (length T) x
  unfolding Below
  below zero x a = subst (Below (length T)) (at_one F.zeroth a) tt
  below (suc zero) x a = subst (Below (length T)) (at_one F.first a) tt
  below (suc (suc e)) x a = lower_below (at_low a) (F.lower (suc (suc e)) x (omega arith) a)

  older : {x : Entry} {f : Forest} → Below (length T) x → Fits D U x f → Fits D T x f
  unfolding Below
  older b Fits.nothing = Fits.nothing
  older b Fits.text = Fits.text
  older b (Fits.inside p h) = let q = at_older g b p in Fits.inside q (older (below _ _ q) h)
  older b (Fits.both p q h k) = let s = at_older g b.0 p in let t = at_older g b.1 q in Fits.both s t (older (below _ _ s) h) (older (below _ _ t) k)
  older b (Fits.left p h) = let q = at_older g b.0 p in Fits.left q (older (below _ _ q) h)
  older b (Fits.right p h) = let q = at_older g b.1 p in Fits.right q (older (below _ _ q) h)
  older b Fits.stop = Fits.stop
  older b (Fits.more p h k) = let q = at_older g b p in Fits.more q (older (below _ _ q) h) (older b k)
  older b (Fits.once p h) = let q = at_older g b p in Fits.once q (older (below _ _ q) h)
  older b (Fits.again p h k) = let q = at_older g b p in Fits.again q (older (below _ _ q) h) (older b k)
  older b Fits.without = Fits.without
  older b (Fits.with p h) = let q = at_older g b p in Fits.with q (older (below _ _ q) h)
  older b (Fits.named d p h) = let q = at_older g (F.defined _ _ d) p in Fits.named d q (older (below _ _ q) h)

  pub has_older : {e : ℕ} {f : Forest} → e < length T → Has D U e f → Has D T e f
  has_older l h = let a = at_older g l h.there in record { entry = h.entry; there = a; fits = older (below _ _ a) h.fits }
