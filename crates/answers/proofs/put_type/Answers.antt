-- `answers::put_type` meets its contract: a record with no field, with one and with two.
-- Assumes nothing.
use native.Mathlib.Omega.{arith}
use Rattle.answers.proofs.Fields.{none_long, one_long, two_long, none_put, one_put, two_put}
use Rattle.answers.proofs.put_type.Goals as goal

pub put_start-requires : goal.put_start-requires
put_start-requires c = omega (arith, none_long c.in-Empty.is)

pub put_one-requires : goal.put_one-requires
put_one-requires c = omega (arith, one_long c.in-Star.is)

pub put_two-requires : goal.put_two-requires
put_two-requires c = omega (arith, two_long c.in-Element.is)

pub returns-in-Empty : goal.returns-in-Empty
returns-in-Empty c = none_put c.kind-kind.ensures c.in-Empty.is c.put_start.ensures

pub returns-in-Star : goal.returns-in-Star
returns-in-Star c = one_put c.kind-kind.ensures c.in-Star.is c.put_one.ensures

pub returns-in-Element : goal.returns-in-Element
returns-in-Element c = two_put c.kind-kind.ensures c.in-Element.is c.put_two.ensures
