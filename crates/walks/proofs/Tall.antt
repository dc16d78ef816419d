-- How much there is to walk, and how deep a walk can go. A step into a part that is not behind an element lowers an entry's `height`; so the entries on the way down are different ones,
-- and there are no more of them than the table has.
-- Assumes nothing.
use mathlib.Core.Path.{refl}
use mathlib.Core.Bool.{Bool, true, false}
use Prim.Native.Nat.{ℕ, suc, ◌+◌, ◌<◌}
use native.Mathlib.Omega.{arith}
use borrow.Author.Tests.{ltb-true, lt-ltb, le-ltb}
use lib.Dec.{ltb}
use lib.ListN.{length}
use Rattle.meaning.specs.Base.{In}
use Rattle.meaning.specs.Types.{Table, Defs, at}
use Rattle.meaning.specs.Reach.{steps_of}
use Rattle.meaning.specs.Formed.{Formed}
use Rattle.meaning.specs.Shapes.{Shape, empty, string, element, pair, union, star, plus, opt, name}
use Rattle.meaning.proofs.Guard.{count_below, count_most, count_lt, height, height_falls, steps_low}

-- the entries of a shape: how much there is to walk
unfoldable pub size : Shape → ℕ
size (empty e) = 1
size (string e) = 1
size (element e l c) = 1
size (pair s t) = suc (size s + size t)
size (union s t) = suc (size s + size t)
size (star s) = suc (size s)
size (plus s) = suc (size s)
size (opt s) = suc (size s)
size (name s) = suc (size s)

-- entry i is lower than entry e
lower : Defs → Table → ℕ → ℕ → Bool
lower D T e i = ltb (height D T i) (height D T e)

-- how many entries a way down from entry e may yet meet
pub tall : Defs → Table → ℕ → ℕ
tall D T e = count_below (lower D T e) (length T)

module _ (D : Defs) (T : Table) (F : Formed D T) where
  pub tall_falls : (e x : ℕ) → e < length T → In x (steps_of false D (at T e)) → tall D T x < tall D T e
  unfolding tall lower
  tall_falls e x l s =
      let low = height_falls D T F e x l s in
      count_lt (lower D T x) (lower D T e)
      (λ i h. let k = ltb-true (height D T i) (height D T x) h in lt-ltb (height D T i) (height D T e) (omega arith))
      (length T) x (steps_low D T F false e x l s)
      (le-ltb (height D T x) (height D T x) (omega arith))
      (lt-ltb (height D T x) (height D T e) low)

  pub tall_most : (e : ℕ) → e < length T → tall D T e < length T
  unfolding tall lower
  tall_most e l =
      let less = count_lt (lower D T e) (λ i. true) (λ i h. refl) (length T) e l (le-ltb (height D T e) (height D T e) (omega arith)) refl in
      omega (arith, less, count_most (λ i. true) (length T))
