-- `guard::any_circle` meets its contract: no definitions, few entries, or many. Assumes nothing.
use mathlib.Core.Path.{sym, ◌∙◌}
use Rattle.std.proofs.lemmas.Bool.{eqb-true}
use Rattle.guard.proofs.Answering.{circle_none}
use Rattle.guard.proofs.any_circle.Goals as goal

pub returns-then-is_empty : goal.returns-then-is_empty
returns-then-is_empty c = circle_none _ (eqb-true _ _ (sym c.is_empty.ensures ∙ c.if-is_empty.true))
