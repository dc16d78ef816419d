-- `walks::down` meets its contract.
-- Assumes nothing.
use native.Mathlib.Omega.{arith}
use Rattle.walks.proofs.Turns.{first_kind, begun_fit}
use Rattle.walks.proofs.down.Goals as goal

pub overflow_cast-e : goal.overflow_cast-e
overflow_cast-e c =
    omega (arith, c.requires.low, c.requires.formed.few)

pub word-requires : goal.word-requires
word-requires c =
    let k = first_kind c.requires.formed c.requires.low _ c.look-act.ensures c.in-First.is in
    rw c.begun.ensures (begun_fit _ _ k (omega (arith, c.requires.low, c.requires.formed.few)))
