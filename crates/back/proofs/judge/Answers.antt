-- `back::judge` meets its contract: 8, then what the check of types and definitions answers. Assumes nothing.
use Rattle.back.proofs.Judging.{no_result, not_checked, checked}
use Rattle.back.proofs.judge.Goals as goal

pub check_types-requires : goal.check_types-requires
check_types-requires c = rw c.new-known.ensures (record { given = c.requires.given; few = c.requires.few })

pub returns-in_default : goal.returns-in_default
returns-in_default c = no_result _ _ _ _ c.in_default.is

pub returns-in-Ok : goal.returns-in-Ok
returns-in-Ok c = rw c.from.ensures (checked _ _ _ _ c.in-Some.is (rw c.new-known.ensures at c.in-Ok.ensures))

pub returns-in-Err : goal.returns-in-Err
returns-in-Err c = not_checked _ _ _ _ c.in-Some.is _ (rw c.new-known.ensures at c.in-Err.ensures)
