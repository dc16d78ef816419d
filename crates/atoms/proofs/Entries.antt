-- Whether an entry has nothing but unions of atoms, by its kind: String and elements have; a union if both parts have, which are lower; no other has.
-- Assumes nothing.
use mathlib.Core.Path.{◌≡◌, sym, ap, ap₂, ◌∙◌}
use mathlib.Core.Bool.{Bool, ◌&&◌}
use mathlib.Core.List.{List}
use Prim.Native.Nat.{ℕ, zero, suc, ◌<◌}
use native.Mathlib.Omega.{arith}
use Rattle.meaning.specs.Base.{At}
use Rattle.meaning.specs.Types as Types
use Rattle.meaning.specs.Types.{Entry, Table, Defs, entry_of, at}
use Rattle.meaning.specs.Shapes.{expand, shape, is_atoms}
use Rattle.meaning.specs.Formed as Formed
use Rattle.meaning.specs.Formed.{Lower, Formed}
use Rattle.meaning.proofs.Lists.{at_one, at_low, at_get_or}
use Rattle.meaning.proofs.Shapes.{shape_law}
use Rattle.atoms.specs.Marks.{mark_of, Marked}

-- the parts of a union are lower
lower_union : {n a b : ℕ} → Lower n (Types.union a b) → (a < n) × (b < n)
lower_union (Formed.union h k) = (h, k)

pub union_low : {D : Defs} {T : Table} {a b : ℕ} (e : ℕ) → Formed D T → At T e (Types.union a b) → (a < e) × (b < e)
union_low zero F h = let p = at_one h F.zeroth in let z : ◌≡◌ {A = ℕ} 0 1 = cc in absurd (omega arith)
union_low (suc zero) F h = let p = at_one h F.first in let z : ◌≡◌ {A = ℕ} 0 1 = cc in absurd (omega arith)
union_low (suc (suc e)) F h = lower_union (F.lower (suc (suc e)) _ (omega arith) h)

module _ {D : Defs} {T : Table} {e : ℕ} {marks : List Bool} (F : Formed D T) (m : Marked D T e marks) where
  law : {x : Entry} → At T e x → is_atoms (expand D e (λ i. shape D T i) x) ≡ is_atoms (shape D T e)
  law h = ap is_atoms (sym (rw (at_get_or h Types.empty) at (shape_law D T F e (at_low h))))

  -- an entry's mark from those of the lower ones says whether it has nothing but unions of atoms
  pub mark_law : (x : Entry) → At T e x → mark_of marks x ≡ is_atoms (shape D T e)
  unfolding expand is_atoms
  mark_law Types.empty h = law h
  mark_law Types.string h = law h
  mark_law (Types.element l c) h = law h
  mark_law (Types.pair a b) h = law h
  mark_law (Types.union a b) h =
      let low = union_low e F h in
      ap₂ ◌&&◌ (m.is a low.0) (m.is b low.1) ∙ law h
  mark_law (Types.star a) h = law h
  mark_law (Types.plus a) h = law h
  mark_law (Types.opt a) h = law h
  mark_law (Types.name d) h = law h
