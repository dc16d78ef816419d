-- `parses::settle` meets its contract.
-- Assumes nothing.
use mathlib.Core.Path.{ap}
use native.Mathlib.Omega.{arith}
use lib.ListN.{length}
use Rattle.meaning.specs.Base.{zeros}
use Rattle.words.proofs.Tables.{code_length}
use Rattle.parses.proofs.Finishing.{settles_not}
use Rattle.parses.proofs.settle.Goals as goal

pub write-requires : goal.write-requires
write-requires c =
    let few = rw c.in-Ok.is at c.requires.few in
    omega (arith, ap length c.new.ensures, code_length c.args.code.now c.from.result, c.from.ensures, few)

pub returns-in-Err : goal.returns-in-Err
unfolding zeros
returns-in-Err c = rw c.in-Err.is (settles_not (c.fill.ensures.after (λ y h. h)))
