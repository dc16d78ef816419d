-- `tables::Vars::len` meets its contract. Assumes nothing.
use mathlib.Core.Path.{sym, ap, ◌∙◌}
use Rattle.std.proofs.Common.{length}
use Rattle.words.proofs.Tables.{vars_length}
use Rattle.tables.proofs.Vars.len.Goals as goal

pub returns : goal.returns
returns c = sym (vars_length _ _) ∙ ap length c.self.view_is
