-- The loop that fills the table of sets from the lowest entry up: those below e are their entries'.
-- Assumes nothing.
use mathlib.Core.Path.{◌≡◌, refl, ap₂, ◌∙◌, subst}
use mathlib.Core.List.{List}
use Prim.Native.Nat.{ℕ, zero, suc, ◌+◌, ◌≤◌, ◌<◌}
use native.Mathlib.Omega.{arith}
use native.Mathlib.Decide.{ℕ_discrete}
use native.Mathlib.Nat.{le_trans}
use lib.Bits.{bit_or}
use lib.ListN.{length, get_or, set, length-set}
use lib.Seq.{get_or-set_same, get_or-set_other}
use Rattle.meaning.specs.Types as Types
use Rattle.meaning.specs.Types.{Entry, Table, at}
use Rattle.meaning.specs.Formed as Formed
use Rattle.meaning.specs.Formed.{Lower, TypesRead}
use Rattle.meaning.proofs.Lists.{at_get_or, at_is}
use Rattle.guard.specs.Sets as Sets
use Rattle.guard.specs.Sets.{set_of, Low, Laid, Filled}

-- what reading leaves
pub types_laid : {room : ℕ} {T : Table} → TypesRead room T → Laid T
types_laid {room} {T} r = record { low = go }
  where
    go : (e : ℕ) → e < length T → Low e (at T e)
    go zero l = rw (at_get_or r.zeroth Types.empty) Sets.empty
    go (suc zero) l = rw (at_get_or r.first Types.empty) Sets.string
    go (suc (suc e)) l = Sets.lower (r.lower (suc (suc e)) (at T (suc (suc e))) (omega arith) (at_is T (suc (suc e)) Types.empty l))

lower_more : {n m : ℕ} {x : Entry} → n ≤ m → Lower n x → Lower m x
lower_more h (Formed.element p q r) = Formed.element p q (le_trans r h)
lower_more h (Formed.pair p q) = Formed.pair (le_trans p h) (le_trans q h)
lower_more h (Formed.union p q) = Formed.union (le_trans p h) (le_trans q h)
lower_more h (Formed.star p) = Formed.star (le_trans p h)
lower_more h (Formed.plus p) = Formed.plus (le_trans p h)
lower_more h (Formed.opt p) = Formed.opt (le_trans p h)
lower_more h (Formed.name p) = Formed.name p

pub low_more : {n m : ℕ} {x : Entry} → n ≤ m → Low n x → Low m x
low_more h Sets.empty = Sets.empty
low_more h Sets.string = Sets.string
low_more h (Sets.lower l) = Sets.lower (lower_more h l)

-- a store at e does not touch the sets below e
module _ (masks : List ℕ) (e v : ℕ) where
  other : {y : ℕ} → y < e → get_or (set masks e v) y 0 ≡ get_or masks y 0
  other {y} h = get_or-set_other masks e y v 0 (λ p. omega arith)

  set_kept : {x : Entry} → Low e x → set_of (set masks e v) x ≡ set_of masks x
  unfolding set_of
  set_kept Sets.empty = refl
  set_kept Sets.string = refl
  set_kept (Sets.lower (Formed.element p q r)) = refl
  set_kept (Sets.lower (Formed.pair p q)) = ap₂ bit_or (other p) (other q)
  set_kept (Sets.lower (Formed.union p q)) = ap₂ bit_or (other p) (other q)
  set_kept (Sets.lower (Formed.star p)) = other p
  set_kept (Sets.lower (Formed.plus p)) = other p
  set_kept (Sets.lower (Formed.opt p)) = other p
  set_kept (Sets.lower (Formed.name p)) = refl

pub record Filling (T : Table) (count : ℕ) (before masks : List ℕ) (e : ℕ) : Type 0 where
  pub to : e ≤ count
  pub long : length masks ≡ length before
  pub done : (i : ℕ) → i < e → get_or masks i 0 ≡ set_of masks (at T i)

module _ {T : Table} {count : ℕ} {before masks : List ℕ} {e : ℕ} (many : length T ≡ count) (laid : Laid T) (f : Filling T count before masks e) where
  -- the next entry is one of entries that have their sets
  pub filling_low : {x : Entry} → count ≤ length before → e < count → at T e ≡ x → Low (length masks) x
  filling_low room h p = low_more (omega (arith, f.long)) (subst (Low e) p (laid.low e (omega arith)))

  pub filling_more : {x : Entry} {v : ℕ} → count ≤ length before → e < count → at T e ≡ x → v ≡ set_of masks x → Filling T count before (set masks e v) (e + 1)
  filling_more {x} {v} room h p q = record { to = omega arith; long = length-set masks e v ∙ f.long; done = λ i l. go i l (ℕ_discrete i e) }
    where
      go : (i : ℕ) → i < e + 1 → Dec (i ≡ e) → get_or (set masks e v) i 0 ≡ set_of (set masks e v) (at T i)
      go i l (yes s) = rw (s, get_or-set_same masks e v 0 (omega (arith, f.long)), set_kept masks e v (laid.low e (omega arith)), p) q
      go i l (no s) = rw (get_or-set_other masks e i v 0 s, set_kept masks e v (low_more (omega arith) (laid.low i (omega arith)))) (f.done i (omega arith))

  pub filling_all : count ≤ e → Filled T masks
  filling_all h = record { filled = λ i l. f.done i (omega arith) }
