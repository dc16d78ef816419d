-- The pass over the entries: each takes its mark when all lower ones have theirs.
-- Assumes nothing.
use mathlib.Core.Path.{◌≡◌, refl, ◌∙◌}
use mathlib.Core.Bool.{Bool, false}
use mathlib.Core.List.{List}
use Prim.Native.Nat.{ℕ, ◌+◌, ◌≤◌, ◌<◌}
use native.Mathlib.Omega.{arith}
use native.Mathlib.Decide.{ℕ_discrete}
use lib.ListN.{length, get_or, set, length-set}
use lib.Seq.{get_or-set_same, get_or-set_other}
use Rattle.meaning.specs.Base.{At}
use Rattle.meaning.specs.Types as Types
use Rattle.meaning.specs.Types.{Entry, Table, Defs, at}
use Rattle.meaning.specs.Shapes.{shape, is_atoms}
use Rattle.meaning.specs.Formed.{Formed}
use Rattle.meaning.proofs.Lists.{at_is}
use Rattle.atoms.specs.Marks.{Parts, mark_of, Marked, Typed}
use Rattle.atoms.proofs.Entries.{union_low, mark_law}

-- what stands at an entry's place
stands : (T : Table) (e : ℕ) → e < length T → At T e (at T e)
stands T e l = at_is T e Types.empty l

-- the parts of a union have places in the marks
pub parts_inside : {T : Table} (e : ℕ) {n : ℕ} (x : Entry) → Typed T → x ≡ at T e → e < length T → e < n → Parts n x
parts_inside {T} e x t r l m =
    record { low = λ a b p. let low = union_low {a = a} {b = b} e t.formed (rw (← r, p) at (stands T e l)) in (omega arith, omega arith) }

-- one mark more
marked_more : {D : Defs} {T : Table} {e : ℕ} (m : Bool) (marks : List Bool) → e < length marks → Marked D T e marks → m ≡ is_atoms (shape D T e) → Marked D T (e + 1) (set marks e m)
marked_more {D} {T} {e} m marks l h p = record { is = λ i k. go i k (ℕ_discrete i e) }
  where
    go : (i : ℕ) → i < e + 1 → Dec (i ≡ e) → get_or (set marks e m) i false ≡ is_atoms (shape D T i)
    go i k (yes q) = rw (q, get_or-set_same marks e m false l) p
    go i k (no q) = rw (get_or-set_other marks e i m false q) (h.is i (omega arith))

-- so many entries have their marks, with whatever definitions the table is formed
pub record Marking (T : Table) (before marks : List Bool) (e : ℕ) : Type 0 where
  pub to : e ≤ length T
  pub long : length marks ≡ length before
  pub done : (D : Defs) → Formed D T → Marked D T e marks

pub marking_none : (T : Table) (marks : List Bool) → Marking T marks marks 0
marking_none T marks = record { to = omega arith; long = refl; done = λ D F. record { is = λ e l. absurd (omega arith) } }

pub marking_more : {T : Table} {before marks : List Bool} {e : ℕ} (x : Entry) (m : Bool) → Marking T before marks e → e < length T → length T ≤ length before → x ≡ at T e
    → m ≡ mark_of marks x
    → Marking T before (set marks e m) (e + 1)
marking_more {T} {before} {marks} {e} x m s l room r h =
    record {
      to = omega arith;
      long = length-set marks e m ∙ s.long;
      done = λ D F. marked_more m marks (omega (arith, s.long)) (s.done D F) (h ∙ mark_law F (s.done D F) x (rw (← r) at (stands T e l)));
    }

pub marking_all : {T : Table} {before marks : List Bool} {e : ℕ} → Marking T before marks e → length T ≤ e → (D : Defs) → Formed D T → Marked D T (length T) marks
marking_all s l D F = record { is = λ i k. (s.done D F).is i (omega arith) }
