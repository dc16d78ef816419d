-- `typed::walk` meets its contract: classes, the scope of the declared variables, and the walk. Assumes nothing.
use native.Mathlib.Omega.{arith}
use Rattle.typed.proofs.Beginning.{vars_ready, walk_ready, walk_grows}
use Rattle.typed.proofs.walk.Goals as goal

pub new-requires : goal.new-requires
new-requires c = omega (arith, c.requires.lent.fits)

pub fill-requires : goal.fill-requires
fill-requires c =
    rw c.new.ensures (record { place = record { formed = c.requires.formed; long = omega (arith, c.requires.formed.few) }; ways = omega (arith, c.requires.formed.few) })

pub declared-scope-requires : goal.declared-scope-requires
declared-scope-requires c = rw c.new-vars.ensures (vars_ready c.requires)

pub walk-requires-clause-here : goal.walk-requires-clause-here
walk-requires-clause-here c =
    walk_ready c.requires (rw c.new-vars.ensures at c.declared-scope.ensures.1) c.declared-scope.ensures.0 (rw c.new.ensures at c.fill.ensures) (omega (arith, c.fill.auto.classes)) (omega (arith, c.fill.auto.back)) c.new-code.ensures

pub returns : goal.returns
returns c =
    walk_grows c.requires (rw c.new-vars.ensures at c.declared-scope.ensures.1) c.new-code.ensures c.walk.ensures
