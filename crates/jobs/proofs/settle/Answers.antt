-- `jobs::settle` meets its contract: the checks passed and the tables stay, or what was read is cleared, behind which both are clear. Assumes nothing.
use mathlib.Core.Path.{refl, ap, sym, ◌∙◌}
use Rattle.words.proofs.Tables.{table_cleared, code_cleared}
use Rattle.checks.specs.Says.{passed}
use Rattle.jobs.proofs.Checking.{passed_leaves, refused_leaves}
use native.Mathlib.Omega.{arith}
use Rattle.jobs.proofs.settle.Goals as goal

pub clear_entries-requires : goal.clear_entries-requires
clear_entries-requires c = omega (arith, c.requires.types_inside)

pub clear_nodes-requires : goal.clear_nodes-requires
clear_nodes-requires c = omega (arith, c.requires.code_inside)

pub returns-in-Ok : goal.returns-in-Ok
returns-in-Ok c =
    record { leaves = λ t held stored. passed_leaves held _ (sym (ap (passed t) c.in-Ok.is) ∙ c.check_job-checked.ensures t (rw (c.new.ensures, c.new-2.ensures, c.new-3.ensures) stored)) }

pub returns-in-Err : goal.returns-in-Err
returns-in-Err c =
    record { leaves = λ t held stored. refused_leaves _ _ (sym (ap (passed t) c.in-Err.is) ∙ c.check_job-checked.ensures t (rw (c.new.ensures, c.new-2.ensures, c.new-3.ensures) stored)) (table_cleared _ t.types held.entries held.types refl c.clear_entries.ensures) (code_cleared _ t.code held.nodes_are held.code refl c.clear_nodes.ensures) }
