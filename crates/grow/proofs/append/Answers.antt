-- `grow::append` meets its contract.
-- Assumes nothing.
use Prim.Native.Nat.{◌<◌}
use native.Mathlib.Omega.{arith}
use lib.ListN.{length}
use Rattle.meaning.specs.Base.{type_capacity}
use Rattle.grow.proofs.Growth.{class_new, grown_left, full_left}
use Rattle.grow.proofs.append.Goals as goal

pub returns-then-count-room : goal.returns-then-count-room
returns-then-count-room c =
    λ D x new R.
    let room : c.args.count < type_capacity (length c.args.types.now)
    = omega (arith, c.if-count-room.true, c.type_room-room.ensures) in
    let class = class_new D _ _ _ c.args.node _ _ _ x new R room _ (c.class_of-c.ensures D _) in
    rw c.put_entry.ensures (grown_left D _ _ _ _ _ _ _ x new R room _ class)

pub returns : goal.returns
returns c = λ D x new R. full_left D _ _ _ _ _ _ _ x new R (omega (arith, c.if-count-room.false, c.type_room-room.ensures))
