-- `running::each` meets its contract: its source is held and its first tree comes, or a body is done and the next tree comes.
-- Assumes nothing.
use mathlib.Core.Path.{refl}
use Rattle.running.proofs.Returning.{body_loops, body_from, body_steps, source_loops, source_steps, returns_low}
use native.Mathlib.Omega.{arith}
use Rattle.running.proofs.each.Goals as goal

pub round-requires-clause-looping : goal.round-requires-clause-looping
round-requires-clause-looping c =
    source_loops c.requires.waits.back.returns c.requires.waits.is c.requires.waits.low c.in-None.is _ refl refl refl refl c.from-base.ensures c.hold.ensures

pub overflow_add-m-in-Some : goal.overflow_add-m-in-Some
overflow_add-m-in-Some c =
    omega (arith, c.from-base.ensures, c.from-source.ensures, body_from c.requires.waits.back.returns c.requires.waits.is c.requires.waits.low c.in-Some.is, returns_low c.requires.waits.back.returns)

pub round-requires-in-Some-clause-looping : goal.round-requires-in-Some-clause-looping
round-requires-in-Some-clause-looping c =
    body_loops c.requires.waits.back.returns c.requires.waits.is c.requires.waits.low c.in-Some.is c.from.ensures c.unbind.ensures (omega (arith, c.from-base.ensures, c.from-source.ensures))

pub returns-in-None : goal.returns-in-None
returns-in-None c =
    λ w. source_steps w.back.returns w.is w.low c.in-None.is _ refl refl refl refl c.from-base.ensures c.hold.ensures c.round.ensures

pub returns-in-Some : goal.returns-in-Some
returns-in-Some c =
    λ w. body_steps w.back.returns w.is w.low c.in-Some.is c.from.ensures c.unbind.ensures (omega (arith, c.from-base.ensures, c.from-source.ensures)) c.round-in-Some.ensures
