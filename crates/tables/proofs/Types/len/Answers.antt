-- `tables::Types::len` meets its contract. Assumes nothing.
use mathlib.Core.Path.{sym, ap, ◌∙◌}
use Rattle.std.proofs.Common.{length}
use Rattle.words.proofs.Tables.{table_length}
use Rattle.tables.proofs.Types.len.Goals as goal

pub returns : goal.returns
returns c = sym (table_length _ _) ∙ ap length c.self.view_is
