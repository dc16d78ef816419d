-- `ember_run::values_room` meets its contract: so many zeros. (A search for it would count them.)
-- Assumes nothing.
use mathlib.Core.Path.{sym}
use Prim.Native.Nat.{ℕ}
use lib.ListN.{length-replicate}
use Rattle.ember_run.proofs.values_room.Goals as goal

pub returns : goal.returns
returns c = sym {A = ℕ} (length-replicate {0} {A = ℕ} 2097153 0)
