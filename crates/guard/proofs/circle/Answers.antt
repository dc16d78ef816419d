-- `guard::circle` meets its contract: the closed sets say which definition loops. Assumes nothing.
use mathlib.Core.Path.{ap, ◌∙◌}
use Rattle.meaning.specs.Base.{lowest}
use Rattle.guard.specs.Sets.{bit_at}
use Rattle.guard.proofs.Answering.{given_laid, circle_found}
use Rattle.guard.proofs.circle.Goals as goal

pub fill_masks-requires-clause-laid : goal.fill_masks-requires-clause-laid
fill_masks-requires-clause-laid c = given_laid c.requires.given

pub returns : goal.returns
returns c =
    c.lowest_circle.ensures
    ∙ ap (lowest (λ d. bit_at c.close_reach.new.reach d d)) c.close_reach.auto.reach
    ∙ circle_found c.requires.given _ _ _ (c.fill_reach.auto.reach ∙ c.requires.reach) c.fill_masks.ensures c.fill_reach.ensures c.close_reach.ensures
