-- One step down, by what a rule does at an entry.
-- Assumes nothing.
use mathlib.Core.Path.{◌≡◌, sym, subst, ◌∙◌}
use Prim.Native.Nat.{ℕ, ◌<◌}
use native.Mathlib.Omega.{arith}
use native.Mathlib.Decide.{dec_lt}
use lib.ListN.{length}
use Rattle.meaning.specs.Types.{Table, Defs, at}
use Rattle.meaning.specs.Formed.{Formed}
use Rattle.acts.specs.Acts.{act_of}
use Rattle.acts.specs.declared.Mode.{Mode}
use Rattle.acts.specs.declared.Act.{Act}
use Rattle.walks.specs.Frames.{Fit, begun}
use Rattle.walks.proofs.Stack.{begun_half, begun_alone}
use Rattle.walks.proofs.Acting.{Says, halves, starts, acting}

-- DOWN: the frame of an entry that is begun has a word
kind_of_lem : {mode : Mode} {room node : ℕ} {D : Defs} {T : Table} {e k a : ℕ} → Says mode room node D T e (Act.First k a) → k < 9
kind_of_lem (halves l h p i z is) = omega arith
kind_of_lem (starts l h i is) = h

pub first_kind : {D : Defs} {T : Table} → Formed D T → {e : ℕ} → e < length T → (mode : Mode) {x : Act} {k a : ℕ} → x ≡ act_of mode D e (at T e) → x ≡ Act.First k a → k < 9
first_kind {D} {T} F {e} l mode p q = kind_of_lem (subst (Says mode 0 0 D T e) (sym p ∙ q) (acting 0 0 F e mode l))

pub begun_fit : (k e : ℕ) → k < 9 → e < 4096 → Fit (begun k e)
begun_fit k e l h = go (dec_lt k 6)
  where
    go : Dec (k < 6) → Fit (begun k e)
    go (yes p) = rw (begun_half k e p) (p, h)
    go (no p) = rw (begun_alone k e (omega arith)) (omega arith, l)
