-- `written::walk` meets its contract: what is in the buffer with what is left on the stack is the text. What is left weighs less at each turn.
-- Assumes nothing.
use mathlib.Core.Path.{refl, sym}
use native.Mathlib.Omega.{arith}
use lib.ListN.{length}
use Rattle.parts.specs.Stacks.{Inside, item_of}
use Rattle.written.proofs.Words.{Named, named, inside_named}
use Rattle.written.proofs.Turns.{walking_none, walking_all, piece_turn, piece_less, node_low, node_room, node_turn, node_less}
use Rattle.written.proofs.walk.Goals as goal
use Rattle.written.proofs.walk.Goals.{In-Query}

pub loop-top-init : goal.loop-top-init
loop-top-init c =
    walking_none _ c.requires.ready c.args.stack.now c.requires.room (omega arith) (omega (arith, c.len.ensures))

pub loop-top-smaller-in-Piece-1 : goal.loop-top-smaller-in-Piece-1
loop-top-smaller-in-Piece-1 c =
    piece_less _ c.loop-top.invariant c.loop-top-test.true _ (sym c.in-Piece.is)

pub loop-top-preserved-in-Piece-1 : goal.loop-top-preserved-in-Piece-1
loop-top-preserved-in-Piece-1 c =
    piece_turn _ c.loop-top.invariant c.loop-top-test.true _ (sym c.in-Piece.is) refl c.put_next-at.ensures (c.is_wide.ensures c.in-Piece.value)

-- a node's part: which it is, that it is inside, and that there is room for its own
here : (c : In-Query) → Named (item_of c.args.code.now c.in-Query.part) c.in-Query.deep c.in-Query.node
here c = named c.args.code.now c.in-Query.part-is c.in-Query.is

inside : (c : In-Query) → Inside (length c.args.code.now) c.in-Query.part
inside c = inside_named c.in-Query.part-is c.in-Query.is (node_low _ c.loop-top.invariant c.loop-top-test.true c.in-Query.part c.in-Query.part-is (here c))

pub opens-opens-requires-clause-node : goal.opens-opens-requires-clause-node
opens-opens-requires-clause-node c = inside c

pub expand-top-requires-clause-node : goal.expand-top-requires-clause-node
expand-top-requires-clause-node c = inside (goal.at.expand-top-requires-clause-node c).In-Query

pub expand-top-requires-clause-room : goal.expand-top-requires-clause-room
expand-top-requires-clause-room c =
    node_room _ c.loop-top.invariant c.loop-top-test.true c.in-Query.part c.in-Query.part-is (here (goal.at.expand-top-requires-clause-room c).In-Query)

pub loop-top-smaller : goal.loop-top-smaller
loop-top-smaller c =
    node_less _ c.loop-top.invariant c.loop-top-test.true c.in-Query.part c.in-Query.part-is (here (goal.at.loop-top-smaller c).In-Query) c.opens-opens.ensures c.deeper.ensures c.expand-top.ensures

pub loop-top-preserved : goal.loop-top-preserved
loop-top-preserved c =
    node_turn _ c.loop-top.invariant c.loop-top-test.true c.in-Query.part c.in-Query.part-is (here (goal.at.loop-top-preserved c).In-Query) c.opens-opens.ensures c.deeper.ensures c.expand-top.ensures c.expand-top.auto.stack c.from.ensures c.note-low.ensures

pub returns : goal.returns
returns c =
    walking_all _ c.loop-top.invariant c.loop-top-test.false
