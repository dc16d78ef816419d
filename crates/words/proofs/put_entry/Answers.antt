-- `words::put_entry` meets its contract.
-- Assumes nothing.
use native.Mathlib.Omega.{arith}
use lib.ListN.{length-set}
use Rattle.words.proofs.Stores.{stored_three}
use Rattle.words.proofs.put_entry.Goals as goal

pub bounds-t-at-2 : goal.bounds-t-at-2
bounds-t-at-2 c = simp length-set (omega arith)

pub bounds-t-at-3 : goal.bounds-t-at-3
bounds-t-at-3 c = simp length-set (omega arith)

pub returns : goal.returns
returns c = stored_three _ _ _ _ _ (omega arith)
