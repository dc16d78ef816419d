-- prime only grows the table.
-- Assumes nothing.
use mathlib.Core.Path.{◌≡◌}
use mathlib.Core.List.{List}
use Prim.Native.Nat.{ℕ, ◌≤◌, ◌<◌}
use native.Mathlib.Omega.{arith}
use lib.ListN.{length}
use Rattle.std.specs.Prelude as Std
use Rattle.std.specs.Prelude.{Result}
use Rattle.refusals.specs.declared.Refusal.{Refusal}
use Rattle.meaning.specs.Base.{type_capacity}
use Rattle.meaning.specs.Types.{Table, Defs}
use Rattle.meaning.specs.Shapes.{shape}
use Rattle.meaning.specs.Rules.{prime}
use Rattle.meaning.proofs.Grow.{prime_ends, shape_within}
use Rattle.words.specs.Tables.{table_of}
use Rattle.words.proofs.Tables.{table_length}
use Rattle.grow.specs.Grow.{Ready, Left}
use Rattle.grow.specs.declared.Made.{Made}
use Rattle.grow.proofs.Steps.{made, kept_count}

pub prime_count : {D : Defs} {ws us cs ds : List ℕ} {n e : ℕ} {m : Made} (node : ℕ) {r : Result Made Refusal} → Ready D ws cs n → e < n
    → Left D ws us cs ds r (prime (type_capacity (length ws)) node (shape D (table_of ws n) e) (table_of ws n)) → r ≡ Std.Ok m → n ≤ m.count
prime_count {D} {ws} {us} {n = n} {e} {m} node R low g p =
    let T : Table = table_of ws n in
    let ends = prime_ends D (type_capacity (length ws)) (omega arith) node (shape D T e) T R.formed (rw table_length R.lent.fits) (shape_within R.formed (rw table_length low)) in
    kept_count ws us n m.count (made ends p g).grows
