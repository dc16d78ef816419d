-- The rule of dos: the star of the unions, over the atoms that are reached; no atom; and how a caller meets what the rule asks.
-- Assumes nothing.
use mathlib.Core.Path.{◌≡◌}
use mathlib.Core.Bool.{Bool, true}
use mathlib.Core.List.{List, [], ◌∷◌}
use Prim.Native.Nat.{ℕ, ◌+◌, ◌*◌, ◌-◌, ◌≤◌}
use native.Mathlib.Omega.{arith}
use lib.ListN.{length, take}
use Rattle.std.specs.Prelude as Std
use Rattle.std.specs.Prelude.{Result}
use Rattle.refusals.specs.declared.Refusal.{Refusal}
use Rattle.meaning.specs.Base.{Out, kept_from, type_capacity}
use Rattle.meaning.specs.Types as Types
use Rattle.meaning.specs.Types.{Table, Defs, entry_words}
use Rattle.meaning.specs.Reach.{reached}
use Rattle.meaning.specs.Rules.{append, star_of, dos_rule}
use Rattle.words.specs.declared.Entry as Words
use Rattle.words.specs.Tables.{table_of}
use Rattle.words.proofs.Tables.{table_length}
use Rattle.reach.specs.Marks.{marks_of, Given}
use Rattle.reach.specs.Atoms.{picked, Next}
use Rattle.reach.proofs.Steps.{given_taken}
use Rattle.reach.proofs.Atoms.{atoms_one, atoms_none}
use Rattle.grow.specs.Grow.{Ready, Left}
use Rattle.grow.specs.declared.Made.{Made}
use Rattle.grow.proofs.Entries.{new_star, new_by}
use Rattle.grow.proofs.Steps.{left_here, left_ready, left_stop, left_after}
use Rattle.dos.proofs.Uniting.{Adds, United}

-- THE STAR of the unions, from entry x over those kept after it
abbrev pub Starred : List ℕ → ℕ → (ℕ → Bool) → ℕ → ℕ → Out (Table × ℕ)
Starred ws count f node x = star_of (type_capacity (length ws)) node (x ∷ kept_from f (x + 1) (count - (x + 1))) (table_of ws count)

module _ {D : Defs} {ws us cs ds : List ℕ} (count : ℕ) (f : ℕ → Bool) (node x : ℕ) {r : Result Made Refusal} (g : Left D ws us cs ds r (United ws count f node x)) where
  pub star_full : {e : Refusal} → r ≡ Std.Err e → Left D ws us cs ds r (Starred ws count f node x)
  unfolding star_of
  star_full p = left_stop _ p g

  pub star_done : {m : Made} {vs es : List ℕ} {w : Words.Entry} {s : Result Made Refusal} → r ≡ Std.Ok m → w.kind ∷ w.a ∷ w.b ∷ [] ≡ entry_words (Types.star m.at) → Adds us vs ds es m.count node w s → Left D ws vs cs es s (Starred ws count f node x)
  unfolding star_of
  star_done {m} p is adds = let a = left_ready p g in left_after (λ room v. append room node (Types.star v)) p g (adds D (Types.star m.at) (new_by is (new_star a.1)) a.0)

-- THE RULE, where none is kept, and where the first that is kept is x
module _ {D : Defs} {ws cs : List ℕ} (ms : List ℕ) {count : ℕ} (e node test : ℕ) (R : Ready D ws cs count) {T : Table} (known : T ≡ table_of ws count) (marks : marks_of (length T) ms ≡ reached true D T e) where
  pub dos_none : Next (picked test T (marks_of (length T) ms)) (length T) 0 Std.None
      → Left D ws ws cs cs (Std.Ok (record { at = 0; count = count })) (dos_rule (type_capacity (length ws)) node D test e (table_of ws count))
  unfolding dos_rule star_of
  dos_none next = rw (rw known at (atoms_none D T e ms test marks next)) (left_here R (omega (arith, R.formed.two, table_length ws count)))

  pub dos_some : {x : ℕ} {us ds : List ℕ} {r : Result Made Refusal} → Next (picked test T (marks_of (length T) ms)) (length T) 0 (Std.Some x)
      → Left D ws us cs ds r (Starred ws count (picked test (table_of ws count) (marks_of count ms)) node x)
      → Left D ws us cs ds r (dos_rule (type_capacity (length ws)) node D test e (table_of ws count))
  unfolding dos_rule
  dos_some next g = rw (rw (known, table_length) at (atoms_one D T e ms test marks next)) g

-- WHAT A CALLER HAS: the definitions in use are the first so many of those lent; and marks for every entry that a table may have
module _ {D : Defs} {ws cs : List ℕ} {count : ℕ} (R : Ready D ws cs count) where
  pub given_ready : {defs : List ℕ} (used : ℕ) → used ≤ length defs → D ≡ take used defs → Given (table_of ws count) defs D
  given_ready used l p = given_taken R.formed used l p

  pub dos_ready : {defs : List ℕ} (used : ℕ) → used ≤ length defs → D ≡ take used defs → (E : Defs) × Ready E ws cs count × Given (table_of ws count) defs E
  dos_ready used l p = (D, R, given_ready used l p)

  pub marks_ready : (ms : List ℕ) → 8192 ≤ length ms → 2 * count ≤ length ms
  marks_ready ms h = omega (arith, R.lent.fits)
