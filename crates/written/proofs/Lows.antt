-- The lowest of some nodes, found one after the other.
-- Assumes nothing.
use mathlib.Core.Path.{◌≡◌, refl, ap, ◌∙◌}
use mathlib.Core.List.{List, [], ◌∷◌, ◌++◌}
use mathlib.Core.Option.{Option, none, some}
use Prim.Native.Nat.{ℕ, min}
use native.Mathlib.Omega.{arith}
use Rattle.meaning.specs.Written.{least}
use Rattle.written.specs.Says.{lowered, joined}

pub joined_append : (o : Option ℕ) (ms ns : List ℕ) → joined o (ms ++ ns) ≡ joined (joined o ms) ns
unfolding joined
joined_append o [] ns = refl
joined_append o (m ∷ ms) ns = joined_append (lowered o m) ms ns

-- one more before the rest
lower_of : (m n : ℕ) (ns : List ℕ) (o : Option ℕ) → least ns ≡ o → least (min m n ∷ ns) ≡ least (m ∷ n ∷ ns)
unfolding least
lower_of m n ns none e = rw e refl
lower_of m n ns (some k) e =
    let p : min (min m n) k ≡ min m (min n k) = omega arith in
    rw e (ap some p)

joined_some : (m : ℕ) (ns : List ℕ) → joined (some m) ns ≡ least (m ∷ ns)
unfolding joined least
joined_some m [] = refl
joined_some m (n ∷ ns) = joined_some (min m n) ns ∙ lower_of m n ns (least ns) refl

pub joined_least : (ns : List ℕ) → joined none ns ≡ least ns
unfolding joined least
joined_least [] = refl
joined_least (n ∷ ns) = joined_some n ns
