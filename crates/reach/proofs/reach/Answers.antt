-- `reach::reach` meets its contract: what is marked is reached, and what stands in it is marked or still to be visited (`Visiting`). Assumes nothing.
use mathlib.Core.Path.{sym}
use Rattle.reach.proofs.Reaching.{front_at, start_room, anyhow_start, anyhow_room, anyhow_place, anyhow_small, anyhow_inside, anyhow_within, anyhow_visited, anyhow_end, one_left, over_less}
use lib.ListN.{length}
use Prim.Native.Nat.{◌≤◌}
use native.Mathlib.Omega.{arith}
use Rattle.reach.proofs.reach.Goals as goal

pub push-left-requires-clause-low : goal.push-left-requires-clause-low
push-left-requires-clause-low c = rw c.len-count.ensures c.requires.low

pub push-left-requires-clause-room : goal.push-left-requires-clause-room
push-left-requires-clause-room c =
    start_room _ _ c.requires.given.1 (sym c.len-count.ensures) (rw c.len-count.ensures c.requires.long) c.clear.ensures

pub loop-left-init : goal.loop-left-init
loop-left-init c =
    let long : c.len-count.result ≤ length c.args.marks.now = omega (arith, c.len-count.ensures, c.requires.long) in
    let room = start_room _ _ c.requires.given.1 (sym c.len-count.ensures) (rw c.len-count.ensures c.requires.long) c.clear.ensures in
    anyhow_start (sym c.len-count.ensures) (rw c.len-count.ensures c.requires.low) (sym c.push-left.ensures.long) room (front_at _ _ _ long c.clear.ensures) c.push-left.ensures

pub overflow_add-count : goal.overflow_add-count
overflow_add-count c =
    omega (arith, anyhow_small (sym c.len-count.ensures) (rw c.len-count.ensures c.requires.low) (one_left c.loop-left-test.true) c.loop-left.invariant c.requires.given.1)

pub offset_bounds-marks-count : goal.offset_bounds-marks-count
offset_bounds-marks-count c =
    omega (arith, anyhow_small (sym c.len-count.ensures) (rw c.len-count.ensures c.requires.low) (one_left c.loop-left-test.true) c.loop-left.invariant c.requires.given.1)

pub bounds-marks-count : goal.bounds-marks-count
bounds-marks-count c =
    anyhow_place (sym c.len-count.ensures) (rw c.len-count.ensures c.requires.low) (one_left c.loop-left-test.true) c.loop-left.invariant c.requires.given.1

pub get-requires : goal.get-requires
get-requires c =
    anyhow_inside (sym c.len-count.ensures) (rw c.len-count.ensures c.requires.low) (one_left c.loop-left-test.true) c.loop-left.invariant c.requires.given.1 c.from-at.ensures

pub visit-left-requires-clause-within : goal.visit-left-requires-clause-within
visit-left-requires-clause-within c =
    anyhow_within (sym c.len-count.ensures) (rw c.len-count.ensures c.requires.low) (one_left c.loop-left-test.true) c.loop-left.invariant c.requires.given.1 c.from-at.ensures _ c.get.ensures

pub visit-left-requires-clause-room : goal.visit-left-requires-clause-room
visit-left-requires-clause-room c =
    anyhow_room (sym c.len-count.ensures) (rw c.len-count.ensures c.requires.low) (one_left c.loop-left-test.true) c.loop-left.invariant c.requires.given.1

pub loop-left-smaller : goal.loop-left-smaller
loop-left-smaller c =
    over_less (one_left c.loop-left-test.true) c.visit-left.ensures

pub loop-left-preserved : goal.loop-left-preserved
loop-left-preserved c =
    anyhow_visited (sym c.len-count.ensures) (rw c.len-count.ensures c.requires.low) (one_left c.loop-left-test.true) c.loop-left.invariant c.from-at.ensures _ c.get.ensures c.visit-left.ensures

pub returns : goal.returns
returns c =
    rw c.len-count.ensures at (anyhow_end (sym c.len-count.ensures) (rw c.len-count.ensures c.requires.low) c.loop-left-test.false c.loop-left.invariant)
