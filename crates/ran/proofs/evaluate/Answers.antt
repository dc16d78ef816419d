-- `ran::evaluate` meets its contract: the values are held for their variables, and the query is evaluated behind them. Assumes nothing.
use Rattle.ran.proofs.Evaluating.{loaded_within, eval_ready, eval_leaves}
use native.Mathlib.Omega.{arith}
use Rattle.ran.proofs.evaluate.Goals as goal

pub hold-requires : goal.hold-requires
hold-requires c =
    let w = loaded_within c.requires.ready c.requires.begins in (w.0, omega (arith, w.1))

pub spread-scope-requires : goal.spread-scope-requires
spread-scope-requires c =
    record { read = c.requires.ready.read; ended = (loaded_within c.requires.ready c.requires.begins).2 }

pub slice_bounds-eval-start : goal.slice_bounds-eval-start
slice_bounds-eval-start c =
    omega (arith, c.requires.begins.loads.fits, c.work_room-room.ensures)

pub slice_bounds-eval-end : goal.slice_bounds-eval-end
slice_bounds-eval-end c =
    omega (arith, c.work_room-room.ensures)

pub eval-requires : goal.eval-requires
eval-requires c =
    rw c.len-nodes.ensures
    (eval_ready c.requires.ready c.requires.begins _ c.spread-scope.ensures c.hold.ensures c.hold.auto.held _ c.work_room-room.ensures)

pub returns : goal.returns
returns c =
    eval_leaves c.requires.ready c.requires.begins _ c.spread-scope.ensures c.hold.ensures c.hold.auto.held _ c.work_room-room.ensures (rw c.len-nodes.ensures at c.eval.ensures)
