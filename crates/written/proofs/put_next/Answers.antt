-- `written::put_next` meets its contract: a space or none, and the piece.
-- Assumes nothing.
use Rattle.written.proofs.Laying.{next_room, next_put}
use Rattle.written.proofs.put_next.Goals as goal

pub put-requires : goal.put-requires
put-requires c = next_room _ c.requires c.space-next.ensures

pub returns : goal.returns
returns c = next_put c.args.last c.args.kind c.args.value (c.is_spaced.ensures c.args.value) c.space-next.ensures c.put.ensures
