-- `rows::emit` meets its contract.
-- Assumes nothing.
use Rattle.rows.proofs.Emitting.{emits_row, emits_none}
use native.Mathlib.Omega.{arith}
use Rattle.rows.proofs.emit.Goals as goal

pub put_node-requires : goal.put_node-requires
put_node-requires c =
    omega (arith, c.requires.room, c.from.ensures, c.if-has_room.true)

pub returns-then-has_room : goal.returns-then-has_room
returns-then-has_room c =
    emits_row _ _ _ _ c.requires.room c.if-has_room.true c.from.ensures c.put_node.ensures

pub returns : goal.returns
returns c =
    emits_none c.if-has_room.false
