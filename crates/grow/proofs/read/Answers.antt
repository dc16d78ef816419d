-- `grow::read` meets its contract.
-- Assumes nothing.
use native.Mathlib.Omega.{arith}
use Rattle.meaning.specs.Base.{At}
use Rattle.meaning.specs.Types as Types
use Rattle.meaning.proofs.Lists.{at_is}
use Rattle.words.specs.Tables.{entry_at, table_of}
use Rattle.words.proofs.Tables.{table_length, table_at}
use Rattle.grow.proofs.read.Goals as goal

pub returns : goal.returns
returns c =
    let t = c.args.types.now in
    let n = c.args.count in
    let e = c.args.e in
    let there : At (table_of t n) e (entry_at t e)
    = rw (table_at t n e c.requires.0) at (at_is (table_of t n) e Types.empty (omega (arith, c.requires.0, table_length t n))) in
    record { is = rw c.read_entry.ensures there }
