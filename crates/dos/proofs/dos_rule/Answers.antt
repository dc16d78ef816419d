-- `dos::dos_rule` meets its contract: the atoms that are kept are those below the entry. Assumes nothing.
use native.Mathlib.Omega.{arith}
use Rattle.words.proofs.Tables.{table_length}
use Rattle.reach.proofs.Atoms.{next_low}
use Rattle.dos.proofs.Rule.{dos_none, dos_some}
use Rattle.dos.proofs.dos_rule.Goals as goal

pub new-known-requires : goal.new-known-requires
new-known-requires c = omega (arith, c.requires.ready.1.lent.fits)

pub reach-requires-clause-given : goal.reach-requires-clause-given
reach-requires-clause-given c = (c.requires.ready.0, rw c.new-known.ensures c.requires.ready.2)

pub reach-requires-clause-low : goal.reach-requires-clause-low
reach-requires-clause-low c = rw (c.new-known.ensures, table_length) c.requires.low

pub reach-requires-clause-long : goal.reach-requires-clause-long
reach-requires-clause-long c = rw (c.new-known.ensures, table_length) c.requires.marked

pub next-first-requires : goal.next-first-requires
next-first-requires c = rw (c.new-known.ensures, table_length) (omega (arith, c.requires.marked, c.reach.auto.marks))

pub join-requires-clause-ready : goal.join-requires-clause-ready
join-requires-clause-ready c = (c.requires.ready.0, c.requires.ready.1)

pub join-requires-clause-low : goal.join-requires-clause-low
join-requires-clause-low c = rw (c.new-known.ensures, table_length) at (next_low c.in-Some.ensures)

pub join-requires-clause-marked : goal.join-requires-clause-marked
join-requires-clause-marked c = omega (arith, c.requires.marked, c.reach.auto.marks)

pub returns-in_default : goal.returns-in_default
returns-in_default c =
    λ D R given. dos_none _ _ _ _ R c.new-known.ensures (c.reach.ensures D (rw c.new-known.ensures given)) c.in_default.ensures

pub returns : goal.returns
returns c =
    λ D R given. dos_some _ _ _ _ R c.new-known.ensures (c.reach.ensures D (rw c.new-known.ensures given)) c.in-Some.ensures (c.join.ensures D R)
