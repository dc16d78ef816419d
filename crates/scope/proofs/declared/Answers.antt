-- `scope::declared` meets its contract.
-- Assumes nothing.
use mathlib.Core.Path.{refl}
use native.Mathlib.Omega.{arith}
use Rattle.scope.proofs.Given.{turn_low, turn_shows, shows_none}
use borrow.Author.Rules.{rules}
use Rattle.scope.proofs.declared.Goals as goal

pub loop-i-init : goal.loop-i-init
loop-i-init c = (omega (arith, c.len-count.ensures), refl, shows_none c.args.vars.now _ (omega (arith, c.len-count.ensures)))

pub bind-scope-requires : goal.bind-scope-requires
bind-scope-requires c = turn_low _ c.requires _ _ (search rules) c.loop-i.invariant.0 c.get-var.ensures c.from.ensures

pub loop-i-preserved : goal.loop-i-preserved
loop-i-preserved c =
    turn_shows _ c.requires _ _ (search rules) c.loop-i.invariant.0 c.get-var.ensures c.loop-i.scope _ _ _ c.of_kind-x.ensures c.from.ensures c.bind-scope.ensures c.loop-i.invariant.1 c.loop-i.invariant.2
