-- `values::load_with` meets its contract: read and settled. Assumes nothing.
use lib.ListN.{length-replicate}
use Rattle.meaning.specs.Base.{zeros}
use Rattle.values.proofs.Settling.{blank, fits}
use Rattle.values.proofs.load_with.Goals as goal

pub read_values-scan-requires : goal.read_values-scan-requires
unfolding zeros
read_values-scan-requires g c =
    blank _ c.work_room-room.ensures c.requires.few (rw length-replicate c.requires.deep)

pub settle-requires : goal.settle-requires
settle-requires g c =
    fits c.args.work.now c.work_room-room.ensures c.read_values-scan.ensures c.read_values-scan.auto.work
