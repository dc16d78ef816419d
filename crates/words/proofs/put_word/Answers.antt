-- `words::put_word` meets its contract: the library's two bytes, copied to their place. Assumes nothing.
use native.Mathlib.Omega.{arith}
use Rattle.words.proofs.Stores.{word_stored}
use Rattle.words.proofs.put_word.Goals as goal

pub returns : goal.returns
returns c = word_stored _ _ _ (omega (arith, c.ranges.w.fits)) c.to_le_bytes.ensures c.copy_from_slice.ensures.after
