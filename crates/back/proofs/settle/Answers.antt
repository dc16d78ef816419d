-- `back::settle` meets its contract: the table stays, or what was read is cleared, behind which it is clear. Assumes nothing.
use mathlib.Core.Path.{refl}
use Rattle.words.proofs.Tables.{table_cleared}
use Rattle.back.proofs.Judging.{passed_leaves, refused_leaves}
use native.Mathlib.Omega.{arith}
use Rattle.back.proofs.settle.Goals as goal

pub clear_entries-requires : goal.clear_entries-requires
clear_entries-requires c = omega (arith, c.requires.inside)

pub returns-in-Ok : goal.returns-in-Ok
returns-in-Ok c = record { leaves = λ t holds. passed_leaves _ holds _ c.in-Ok.ensures }

pub returns-in-Err : goal.returns-in-Err
returns-in-Err c =
    record { leaves = λ t holds. refused_leaves _ holds _ c.in-Err.ensures (table_cleared _ t.types holds.entries holds.words refl c.clear_entries.ensures) }
