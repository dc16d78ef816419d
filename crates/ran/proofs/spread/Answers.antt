-- `ran::spread` meets its contract: the variables are bound from the last to the first. Assumes nothing.
use Rattle.ran.proofs.Spreading.{from_none, from_all, turn_low, turn_from}
use mathlib.Core.Path.{refl}
use borrow.Author.Rules.{rules}
use native.Mathlib.Omega.{arith}
use Rattle.ran.proofs.spread.Goals as goal

pub loop-i-init : goal.loop-i-init
loop-i-init c =
    (omega (arith, c.len-i.ensures), from_none _ _ c.len-i.ensures c.new-scope.ensures)

pub bind-requires : goal.bind-requires
bind-requires c =
    turn_low _ c.requires.read _ _ _ (search rules) (search rules) c.get-x.ensures c.from.ensures

pub loop-i-preserved : goal.loop-i-preserved
loop-i-preserved c =
    turn_from _ _ c.requires.read _ _ _ _ _ (search rules) (search rules) c.get-x.ensures c.from.ensures c.start-from.ensures refl c.bind.ensures.put c.loop-i.invariant.1

pub returns : goal.returns
returns c =
    from_all (search rules) c.loop-i.invariant.1
