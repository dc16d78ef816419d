-- `atoms::first_tangled` meets its contract: so many variables are not tangled (`Seeking`). Assumes nothing.
use Rattle.atoms.proofs.Variables.{seeking_none, seeking_more, seeking_here, seeking_all, type_inside}
use native.Mathlib.Omega.{arith}
use Rattle.atoms.proofs.first_tangled.Goals as goal

pub loop-i-init : goal.loop-i-init
loop-i-init c = seeking_none _ _

pub is_tangled-requires : goal.is_tangled-requires
is_tangled-requires c =
    type_inside _ _ _ c.get-x.result c.get-x.ensures c.from.ensures c.requires.scoped (omega (arith, c.len-i-end.ensures))

pub returns-then-is_tangled : goal.returns-then-is_tangled
returns-then-is_tangled c =
    seeking_here c.get-x.result c.from.result c.is_tangled.result c.get-x.ensures c.from.ensures c.is_tangled.ensures c.loop-i.invariant (omega (arith, c.len-i-end.ensures)) c.if-is_tangled.true c.from-then-is_tangled.result c.from-then-is_tangled.ensures

pub loop-i-preserved : goal.loop-i-preserved
loop-i-preserved c =
    seeking_more c.get-x.result c.from.result c.is_tangled.result c.get-x.ensures c.from.ensures c.is_tangled.ensures c.loop-i.invariant (omega (arith, c.len-i-end.ensures)) c.if-is_tangled.false

pub returns : goal.returns
returns c = seeking_all c.loop-i.invariant (omega (arith, c.len-i-end.ensures))
