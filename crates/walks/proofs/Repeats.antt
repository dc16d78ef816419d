-- U.q by the class q: u itself, or an entry that is appended for it.
-- Assumes nothing.
use mathlib.Core.Path.{◌≡◌}
use mathlib.Core.List.{List, [], ◌∷◌}
use Prim.Native.Nat.{ℕ, ◌<◌}
use lib.ListN.{length}
use Rattle.std.specs.Prelude as Std
use Rattle.std.specs.Prelude.{Result}
use Rattle.meaning.specs.Base.{type_capacity}
use Rattle.meaning.specs.Types as Types
use Rattle.meaning.specs.Types.{Entry, Defs, entry_words}
use Rattle.meaning.specs.Shapes.{Class, one, maybe, more, any}
use Rattle.meaning.specs.Rules.{append, times}
use Rattle.refusals.specs.declared.Refusal.{Refusal}
use Rattle.words.specs.declared.Entry as Words
use Rattle.words.specs.Tables.{table_of}
use Rattle.entries.specs.Says.{shown}
use Rattle.entries.specs.declared.Ty.{Ty}
use Rattle.grow.specs.Grow.{Ready, Left, New}
use Rattle.grow.specs.declared.Made.{Made}
use Rattle.grow.proofs.Entries.{new_by, new_opt, new_plus, new_star}
use Rattle.grow.proofs.Steps.{left_here}

module _ {D : Defs} {ws cs : List ℕ} {count u : ℕ} (R : Ready D ws cs count) (low : u < count) (node : ℕ) {c : Class} where
  pub repeat_one : one ≡ c → Left D ws ws cs cs (Std.Ok (record { at = u; count = count })) (times (type_capacity (length ws)) node u c (table_of ws count))
  unfolding times
  repeat_one p = rw (← p) (left_here R low)

  -- for an entry x, whose words are appended
  module _ {us ds : List ℕ} {x : Ty} {w : Words.Entry} {r : Result Made Refusal} (is : w.kind ∷ w.a ∷ w.b ∷ [] ≡ entry_words (shown x))
      (adds : (E : Defs) (y : Entry) → New count w.kind w.a w.b y → Ready E ws cs count → Left E ws us cs ds r (append (type_capacity (length ws)) node y (table_of ws count))) where
    pub repeat_opt : maybe ≡ c → x ≡ Ty.Opt u → Left D ws us cs ds r (times (type_capacity (length ws)) node u c (table_of ws count))
    unfolding times
    repeat_opt p q = rw (← p) (adds D (Types.opt u) (new_by (rw q at is) (new_opt low)) R)

    pub repeat_plus : more ≡ c → x ≡ Ty.Plus u → Left D ws us cs ds r (times (type_capacity (length ws)) node u c (table_of ws count))
    unfolding times
    repeat_plus p q = rw (← p) (adds D (Types.plus u) (new_by (rw q at is) (new_plus low)) R)

    pub repeat_star : any ≡ c → x ≡ Ty.Star u → Left D ws us cs ds r (times (type_capacity (length ws)) node u c (table_of ws count))
    unfolding times
    repeat_star p q = rw (← p) (adds D (Types.star u) (new_by (rw q at is) (new_star low)) R)
