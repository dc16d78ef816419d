-- `uses::count_node` meets its contract: none, one, or one after the other. Assumes nothing.
use Rattle.uses.proofs.Counts.{room_one, room_first, room_second, named_none, named_one, named_two}
use Rattle.uses.proofs.count_node.Goals as goal

pub count-requires : goal.count-requires
count-requires c = room_one (rw c.in-One.is at c.uses_of.ensures) c.requires

pub count-requires-in-Two : goal.count-requires-in-Two
count-requires-in-Two c = room_first (rw c.in-Two.is at c.uses_of.ensures) c.requires

pub count-requires-in-Two-2 : goal.count-requires-in-Two-2
count-requires-in-Two-2 c = room_second (rw c.in-Two.is at c.uses_of.ensures) c.requires c.count-in-Two.auto.counts c.count-in-Two.ensures

pub returns-in-None : goal.returns-in-None
returns-in-None c = named_none (rw c.in-None.is at c.uses_of.ensures)

pub returns-in-One : goal.returns-in-One
returns-in-One c = named_one (rw c.in-One.is at c.uses_of.ensures) c.count.ensures

pub returns-in-Two : goal.returns-in-Two
returns-in-Two c = named_two (rw c.in-Two.is at c.uses_of.ensures) c.count-in-Two.ensures c.count-in-Two-2.ensures
