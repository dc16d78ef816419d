-- What is read lies in the table of sets.
-- Assumes nothing.
use Prim.Native.Nat.{ℕ}
use native.Mathlib.Omega.{arith}
use Rattle.meaning.specs.Types.{Entry}
use Rattle.meaning.specs.Formed as Formed
use Rattle.guard.specs.Sets as Sets
use Rattle.guard.specs.Sets.{Low, Inside}

pub low_inside : {n : ℕ} {x : Entry} → Low n x → Inside n x
low_inside Sets.empty = tt
low_inside Sets.string = tt
low_inside (Sets.lower (Formed.element p q r)) = tt
low_inside (Sets.lower (Formed.pair p q)) = (p, q)
low_inside (Sets.lower (Formed.union p q)) = (p, q)
low_inside (Sets.lower (Formed.star p)) = p
low_inside (Sets.lower (Formed.plus p)) = p
low_inside (Sets.lower (Formed.opt p)) = p
low_inside (Sets.lower (Formed.name p)) = omega arith
