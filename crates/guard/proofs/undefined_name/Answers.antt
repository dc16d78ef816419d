-- `guard::undefined_name` meets its contract: the lowest from here on is the lowest (`Seeking`). Assumes nothing.
use mathlib.Core.Path.{sym, ap, ◌∙◌}
use Rattle.meaning.specs.Types.{Entry, name_of}
use Rattle.meaning.specs.Checks.{is_undefined}
use Rattle.meaning.proofs.Searches.{seeking_more, seeking_here, seeking_all}
use native.Mathlib.Omega.{arith}
use Rattle.guard.proofs.undefined_name.Goals as goal

pub returns-then-is_undefined : goal.returns-then-is_undefined
returns-then-is_undefined c =
    seeking_here _ _ c.loop-i.invariant (omega (arith, c.len-i-end.ensures)) (ap (λ (x : Entry). is_undefined c.args.defs.now (name_of x)) (sym c.get.ensures) ∙ sym c.is_undefined.ensures ∙ c.if-is_undefined.true)

pub loop-i-preserved : goal.loop-i-preserved
loop-i-preserved c =
    seeking_more _ _ c.loop-i.invariant (omega (arith, c.len-i-end.ensures)) (ap (λ (x : Entry). is_undefined c.args.defs.now (name_of x)) (sym c.get.ensures) ∙ sym c.is_undefined.ensures ∙ c.if-is_undefined.false)

pub returns : goal.returns
returns c = seeking_all _ _ c.loop-i.invariant (omega (arith, c.len-i-end.ensures))
