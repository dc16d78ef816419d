-- `ran::run_typed` meets its contract: what the loader refuses is refused, and what it loads is evaluated. Assumes nothing.
use mathlib.Core.Path.{◌∙◌}
use Rattle.ran.proofs.Leaving.{load_begins, load_settled, load_stopped}
use Rattle.ran.proofs.run_typed.Goals as goal

pub load-requires : goal.load-requires
load-requires c = record { few = rw c.new-vars.ensures c.requires.ready.read.few }

pub evaluate-made-requires-clause-begins : goal.evaluate-made-requires-clause-begins
evaluate-made-requires-clause-begins c =
    rw c.new-vars.ensures
    (load_begins _ c.args.typed (rw c.new-vars.ensures at c.in-Ok.ensures) c.load.auto.work)

pub returns-in-Ok : goal.returns-in-Ok
returns-in-Ok c =
    load_settled _ c.args.typed (rw c.new-vars.ensures at c.in-Ok.ensures) c.load.auto.work (c.evaluate-made.auto.work ∙ c.load.auto.work) (rw (c.new-code.ensures, c.new-vars.ensures) at c.evaluate-made.ensures) c.settle.ensures

pub returns-in-Err : goal.returns-in-Err
returns-in-Err c =
    load_stopped _ c.args.typed (rw c.new-vars.ensures at c.in-Err.ensures) c.clear.ensures.types c.clear.ensures.nodes
