-- `parses::run` meets its contract.
-- Assumes nothing.
use mathlib.Core.Path.{refl}
use native.Mathlib.Omega.{arith}
use lib.ListN.{length-set}
use Rattle.std.proofs.lemmas.Result.{err_from_is_err_and}
use Rattle.parses.proofs.Looping.{long_stack, step_refused, step_done, step_more, step_again, all_ends, going_inside, going_few}
use Rattle.parses.proofs.run.Goals as goal

pub loop-tasks-init : goal.loop-tasks-init
loop-tasks-init c = record { going = c.requires.begun; code_long = refl; stack_long = refl }

pub offset_bounds-stack-tasks : goal.offset_bounds-stack-tasks
offset_bounds-stack-tasks c = omega (arith, long_stack c.loop-tasks.invariant c.loop-tasks-test.true c.requires.stack_room)

pub slice_copy_out-top : goal.slice_copy_out-top
slice_copy_out-top c = omega (arith, long_stack c.loop-tasks.invariant c.loop-tasks-test.true c.requires.stack_room)

pub step-requires-clause-inside : goal.step-requires-clause-inside
step-requires-clause-inside c = going_inside c.loop-tasks.invariant.going

pub step-requires-clause-few : goal.step-requires-clause-few
step-requires-clause-few c = going_few c.loop-tasks.invariant.going

pub returns-in_err-act : goal.returns-in_err-act
returns-in_err-act c =
    let p = err_from_is_err_and c.from_residual.result c.from_residual.ensures.1 in
    rw (p.1, p.2) (step_refused c.loop-tasks.invariant c.loop-tasks-test.true c.requires.stack_room c.in_err-act.ensures)

pub loop-tasks-smaller-in-Done : goal.loop-tasks-smaller-in-Done
loop-tasks-smaller-in-Done c = (step_done c.loop-tasks.invariant c.loop-tasks-test.true c.requires.stack_room c.in-Done.is c.in_ok-act.ensures c.step.auto.code).0

pub loop-tasks-preserved-in-Done : goal.loop-tasks-preserved-in-Done
loop-tasks-preserved-in-Done c = (step_done c.loop-tasks.invariant c.loop-tasks-test.true c.requires.stack_room c.in-Done.is c.in_ok-act.ensures c.step.auto.code).1

pub put_frame-tasks-requires-clause-room : goal.put_frame-tasks-requires-clause-room
put_frame-tasks-requires-clause-room c = omega (arith, long_stack c.loop-tasks.invariant c.loop-tasks-test.true c.requires.stack_room)

pub loop-tasks-smaller-in-More : goal.loop-tasks-smaller-in-More
loop-tasks-smaller-in-More c = (step_more c.loop-tasks.invariant c.loop-tasks-test.true c.requires.stack_room c.in-More.is c.in_ok-act.ensures c.put_frame-tasks.ensures c.step.auto.code c.put_frame-tasks.auto.stack).0

pub loop-tasks-preserved-in-More : goal.loop-tasks-preserved-in-More
loop-tasks-preserved-in-More c = (step_more c.loop-tasks.invariant c.loop-tasks-test.true c.requires.stack_room c.in-More.is c.in_ok-act.ensures c.put_frame-tasks.ensures c.step.auto.code c.put_frame-tasks.auto.stack).1

pub offset_bounds-stack-tasks-in-Again : goal.offset_bounds-stack-tasks-in-Again
offset_bounds-stack-tasks-in-Again c = omega (arith, long_stack c.loop-tasks.invariant c.loop-tasks-test.true c.requires.stack_room)

pub bounds-stack-tasks : goal.bounds-stack-tasks
bounds-stack-tasks c = omega (arith, long_stack c.loop-tasks.invariant c.loop-tasks-test.true c.requires.stack_room)

pub offset_bounds-stack-tasks-in-Again-2 : goal.offset_bounds-stack-tasks-in-Again-2
offset_bounds-stack-tasks-in-Again-2 c = omega (arith, long_stack c.loop-tasks.invariant c.loop-tasks-test.true c.requires.stack_room)

pub bounds-stack-tasks-in-Again : goal.bounds-stack-tasks-in-Again
bounds-stack-tasks-in-Again c = rw length-set (omega (arith, long_stack c.loop-tasks.invariant c.loop-tasks-test.true c.requires.stack_room))

pub overflow_add-tasks : goal.overflow_add-tasks
overflow_add-tasks c = omega (arith, long_stack c.loop-tasks.invariant c.loop-tasks-test.true c.requires.stack_room)

pub loop-tasks-smaller : goal.loop-tasks-smaller
loop-tasks-smaller c = (step_again c.loop-tasks.invariant c.loop-tasks-test.true c.requires.stack_room c.in-Again.is c.in_ok-act.ensures c.step.auto.code).0

pub loop-tasks-preserved : goal.loop-tasks-preserved
loop-tasks-preserved c = (step_again c.loop-tasks.invariant c.loop-tasks-test.true c.requires.stack_room c.in-Again.is c.in_ok-act.ensures c.step.auto.code).1

pub returns : goal.returns
returns c = all_ends c.loop-tasks.invariant c.loop-tasks-test.false
