-- `tokens::run_end` meets its contract.
-- Assumes nothing.
use mathlib.Core.Path.{refl}
use Rattle.tokens.proofs.Runs.{running_next, running_stops, running_ends}
use mathlib.Core.Path.{ap}
use mathlib.Core.Bool.{not}
use native.Mathlib.Omega.{arith}
use Rattle.tokens.proofs.run_end.Goals as goal

pub loop-i-init : goal.loop-i-init
loop-i-init c =
    record { inside = c.requires; is = refl }

pub returns-then-not-passes : goal.returns-then-not-passes
returns-then-not-passes c =
    running_stops c.loop-i.invariant c.loop-i-test.true c.passes.ensures (ap not c.if-not-passes.true)

pub loop-i-preserved : goal.loop-i-preserved
loop-i-preserved c =
    running_next c.loop-i.invariant c.loop-i-test.true c.passes.ensures (ap not c.if-not-passes.false)

pub returns : goal.returns
returns c =
    omega (arith, running_ends c.loop-i.invariant c.loop-i-test.false, c.loop-i.invariant.inside)
