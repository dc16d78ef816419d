-- `guard::has` meets its contract: a shift and the last digit are the bit. Assumes nothing.
use mathlib.Core.Path.{sym}
use Rattle.guard.proofs.Bits.{bit_shift}
use Rattle.guard.proofs.has.Goals as goal

pub returns : goal.returns
returns c = sym (bit_shift c.args.set c.args.d)
