-- The loop that begins each definition's set with that of its entry.
-- Assumes nothing.
use mathlib.Core.Path.{◌≡◌, ap, ◌∙◌}
use mathlib.Core.List.{List}
use Prim.Native.Nat.{ℕ, ◌+◌, ◌≤◌, ◌<◌}
use native.Mathlib.Omega.{arith}
use native.Mathlib.Decide.{ℕ_discrete}
use lib.ListN.{length, get_or, set, length-set}
use lib.Seq.{get_or-set_same, get_or-set_other}
use Rattle.meaning.specs.Types.{Defs}
use Rattle.meaning.specs.Formed.{DefsRead}
use Rattle.meaning.proofs.Lists.{at_is}
use Rattle.guard.specs.Sets.{Begun}

-- a definition that was read is an entry
pub def_low : {n : ℕ} (D : Defs) (d : ℕ) → DefsRead n D → d < length D → get_or D d 0 < n
def_low D d r l = r.defined d (get_or D d 0) (at_is D d 0 l)

pub record Beginning (D : Defs) (masks before now : List ℕ) (d : ℕ) : Type 0 where
  pub to : d ≤ length D
  pub long : length now ≡ length before
  pub done : (i : ℕ) → i < d → get_or now i 0 ≡ get_or masks (get_or D i 0) 0

module _ {D : Defs} {masks before now : List ℕ} {d : ℕ} (f : Beginning D masks before now d) where
  pub beginning_more : {v : ℕ} → length D ≤ length before → d < length D → v ≡ get_or D d 0 → Beginning D masks before (set now d (get_or masks v 0)) (d + 1)
  beginning_more {v} room h e = record { to = omega arith; long = length-set now d (get_or masks v 0) ∙ f.long; done = λ i l. go i l (ℕ_discrete i d) }
    where
      go : (i : ℕ) → i < d + 1 → Dec (i ≡ d) → get_or (set now d (get_or masks v 0)) i 0 ≡ get_or masks (get_or D i 0) 0
      go i l (yes p) = rw (p, get_or-set_same now d (get_or masks v 0) 0 (omega (arith, f.long))) (ap (λ (n : ℕ). get_or masks n 0) e)
      go i l (no p) = get_or-set_other now d i (get_or masks v 0) 0 p ∙ f.done i (omega arith)

  pub beginning_all : length D ≤ d → Begun D masks now
  beginning_all h = record { begun = λ i l. f.done i (omega arith) }
