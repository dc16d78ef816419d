-- `tables::Vars::get` meets its contract. Assumes nothing.
use mathlib.Core.Path.{sym, ap, ◌∙◌}
use mathlib.Core.List.{List}
use Prim.Native.Nat.{ℕ}
use native.Mathlib.Omega.{arith}
use Rattle.meaning.specs.Records.{Var}
use Rattle.words.specs.declared.Entry as Words
use Rattle.words.proofs.Tables.{vars_length, vars_at}
use Rattle.tables.specs.Rows.{var_in, var_at}
use Rattle.tables.proofs.Rows.{below}
use Rattle.tables.proofs.Vars.get.Goals as goal

pub read_entry-requires : goal.read_entry-requires
read_entry-requires c = omega (arith, c.self.invariant, below (vars_length _ _) c.self.view_is c.requires)

pub returns : goal.returns
returns c =
    ap (λ (x : Words.Entry). var_in x) c.read_entry.ensures
    ∙ sym (vars_at _ _ _ _ (below (vars_length _ _) c.self.view_is c.requires))
    ∙ ap (λ (t : List (ℕ × Var)). var_at t c.args.i) c.self.view_is
