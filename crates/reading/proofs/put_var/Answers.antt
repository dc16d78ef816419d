-- `reading::put_var` meets its contract: three words copied to their place. Assumes nothing.
use native.Mathlib.Omega.{arith}
use Rattle.reading.proofs.Decoding.{pasted}
use Rattle.reading.proofs.put_var.Goals as goal

pub returns : goal.returns
returns c = pasted _ _ _ (omega arith) c.copy_from_slice.ensures.after
