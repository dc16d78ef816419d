-- `tables::Types::get` meets its contract. Assumes nothing.
use mathlib.Core.Path.{sym, ap, subst, ◌∙◌}
use native.Mathlib.Omega.{arith}
use Rattle.std.proofs.Common.{length, ◌<◌}
use Rattle.meaning.specs.Types.{Table, at}
use Rattle.words.proofs.Tables.{table_length, table_at}
use Rattle.tables.proofs.Rows.{below}
use Rattle.tables.proofs.Types.get.Goals as goal

pub read-requires : goal.read-requires
read-requires c = omega (arith, c.self.invariant, below (table_length _ _) c.self.view_is c.requires)

pub returns : goal.returns
returns c =
    c.read.ensures ∙ sym (table_at _ _ _ (below (table_length _ _) c.self.view_is c.requires)) ∙ ap (λ (t : Table). at t c.args.e) c.self.view_is
