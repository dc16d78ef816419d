-- A place in the list that a table is seen as is a place among its rows.
-- Assumes nothing.
use mathlib.Core.Path.{◌≡◌, ap, sym, ◌∙◌}
use mathlib.Core.List.{List}
use Prim.Native.Nat.{ℕ, ◌<◌}
use native.Mathlib.Omega.{arith}
use lib.ListN.{length}

pub below : {A : Type 0} {rows shown : List A} {count i : ℕ} → length rows ≡ count → rows ≡ shown → i < length shown → i < count
below long is low = omega (arith, long, low, ap length is)
