-- `uses::uses_of` meets its contract: one row of the grammar for each kind that names nodes, and all others at once. Assumes nothing.
use native.Mathlib.Omega.{arith}
use Rattle.uses.proofs.Fields.{names_parts, uses_nothing}
use Rattle.uses.proofs.uses_of.Goals as goal

pub returns-in-35 : goal.returns-in-35
returns-in-35 c = names_parts _ _ _ c.in-35.is

pub returns-in_default : goal.returns-in_default
returns-in_default c =
    uses_nothing c.args.x.a c.args.x.b c.args.x.c c.args.x.kind (λ e. grind arith) (λ e. grind arith) (λ e. grind arith) (λ e. grind arith) (λ e. grind arith) (λ e. grind arith) (λ e. grind arith)
