-- What an entry waits for.
-- Assumes nothing.
use mathlib.Core.Path.{◌≡◌, refl, ap, subst}
use mathlib.Core.Logic.{◌≢◌, inl, inr}
use mathlib.Core.Bool.{false}
use mathlib.Core.List.{List, [], ◌∷◌}
use Prim.Native.Nat.{ℕ, zero, suc, ◌<◌}
use native.Mathlib.Omega.{arith}
use lib.ListN.{length, get_or, set}
use Rattle.meaning.specs.Base.{In, first, later}
use Rattle.meaning.specs.Types.{Table, Defs, at}
use Rattle.meaning.specs.Reach.{steps_of}
use Rattle.meaning.specs.Shapes.{shape, quant}
use Rattle.meaning.proofs.Lists.{in_none}
use Rattle.meaning.proofs.Guard.{steps_low}
use Rattle.entries.specs.Says.{shown}
use Rattle.entries.specs.declared.Ty.{Ty}
use Rattle.std.specs.Prelude as Std
use Rattle.std.specs.Option.{MatchOption}
use Rattle.std.specs.List.{AllWithin, HoldsAt}
use Rattle.classes.specs.Classes.{code_of, Parts, Place}
use Rattle.classes.specs.Climbs.{Lacks, nothing, part, Sound, Stepped}

-- what stands in a list stands at a place in it
in_at : {x : ℕ} (xs : List ℕ) → In x xs → (k : ℕ) × (k < length xs) × (x ≡ get_or xs k 0)
in_at [] i = in_none i
in_at (y ∷ ys) first = (0, omega arith, refl)
in_at (y ∷ ys) (later i) = let k = in_at ys i in (suc k.0, omega (arith, k.1), k.2)

at_in : (xs : List ℕ) (k : ℕ) → k < length xs → In (get_or xs k 0) xs
at_in [] k l = absurd (omega arith)
at_in (y ∷ ys) zero l = first
at_in (y ∷ ys) (suc k) l = later (at_in ys k (omega arith))

module _ {cs : List ℕ} where
  pub lacks_none : Lacks cs [] Std.None
  lacks_none = nothing (λ i h. in_none h)

  -- the first of a list that has no class is found, or there is none
  pub lacks_found : (xs : List ℕ) (r : Std.Option ℕ)
      → MatchOption r (AllWithin (λ y. get_or cs y 0 ≢ 0) xs 0 (length xs)) (λ x. (get_or cs x 0 ≡ 0) × (i : ℕ) × (i < length xs) × HoldsAt (λ y. y ≡ x) xs i × AllWithin (λ y. get_or cs y 0 ≢ 0) xs 0 i)
      → Lacks cs xs r
  lacks_found xs Std.None h = nothing (λ i j. let k = in_at xs j in rw k.2 (h k.0 0 (omega arith) k.1))
  lacks_found xs (Std.Some x) h = part (rw (← h.3 0) (at_in xs h.1 h.2)) h.0

  pub lacks_nothing : {xs : List ℕ} {r : Std.Option ℕ} → r ≡ Std.None → Lacks cs xs r → (i : ℕ) → In i xs → get_or cs i 0 ≢ 0
  lacks_nothing {xs} p h = go (subst (Lacks cs xs) p h)
    where
      go : Lacks cs xs Std.None → (i : ℕ) → In i xs → get_or cs i 0 ≢ 0
      go (nothing h) = h

  pub lacks_part : {xs : List ℕ} {r : Std.Option ℕ} {x : ℕ} → r ≡ Std.Some x → Lacks cs xs r → In x xs × (get_or cs x 0 ≡ 0)
  lacks_part {xs} {x = x} p h = go (subst (Lacks cs xs) p h)
    where
      go : Lacks cs xs (Std.Some x) → In x xs × (get_or cs x 0 ≡ 0)
      go (part h z) = (h, z)

-- ONE STEP, from an entry of a table that is read
module _ {D : Defs} {T : Table} {cs : List ℕ} (P : Place D T cs) {e : ℕ} (low : e < length T) (x : Ty) (q : shown x ≡ at T e) {r : Std.Option ℕ} (lacks : Lacks cs (steps_of false D (shown x)) r) where
  steps_read : steps_of false D (shown x) ≡ steps_of false D (at T e)
  steps_read = ap (steps_of false D) q

  part_here : {y : ℕ} → r ≡ Std.Some y → In y (steps_of false D (at T e)) × (get_or cs y 0 ≡ 0)
  part_here p = let h = lacks_part p lacks in (rw steps_read at h.0, h.1)

  pub part_low : {y : ℕ} → r ≡ Std.Some y → y < length T
  part_low {y} p = steps_low D T P.formed false e y low (part_here p).0

  pub stepped_down : {bs : List ℕ} {z y : ℕ} → r ≡ Std.Some z → y ≡ z → Stepped D T cs cs bs (set bs y e) e y
  stepped_down p h = rw h (inl (record { part = (part_here p).0; lacks = (part_here p).1; classes = refl; ways = refl }))

  pub stepped_back : {bs : List ℕ} {c y : ℕ} → r ≡ Std.None → (Parts D T cs (at T e) → c ≡ code_of (quant (shape D T e))) → y ≡ get_or bs e 0 → Stepped D T cs (set cs e c) bs bs e y
  stepped_back p h z = inr (record { classes = λ s. ap (set cs e) (h (parts s)); ways = refl; to = z })
    where
      parts : Sound D T cs → Parts D T cs (at T e)
      parts s i k = s.right i (steps_low D T P.formed false e i low k) (lacks_nothing p lacks i (rw steps_read k))
