-- `reach::visit` meets its contract: what stands in each kind of type. Assumes nothing.
use mathlib.Core.Path.{sym, ap, ◌∙◌}
use mathlib.Core.List.{[], ◌∷◌}
use native.Mathlib.Omega.{arith}
use Rattle.reach.proofs.Pushing.{grew_none, grew_by, grew_two}
use Rattle.reach.proofs.Steps.{steps_none, steps_element, steps_two, steps_one, steps_name, within_one, within_two, within_name}
use Rattle.reach.proofs.visit.Goals as goal

pub push-requires-clause-low : goal.push-requires-clause-low
push-requires-clause-low c = omega (arith, c.from.ensures, within_one c.requires.within (steps_element _ c.in-Element.is))

pub push-more-requires-clause-low : goal.push-more-requires-clause-low
push-more-requires-clause-low c = omega (arith, c.from-in-Pair.ensures, within_two c.requires.within (steps_two _ c.in-Pair.is))

pub push-requires-in-Pair-clause-low : goal.push-requires-in-Pair-clause-low
push-requires-in-Pair-clause-low c = omega (arith, c.from-in-Pair-2.ensures, within_two c.requires.within (steps_two _ c.in-Pair.is))

pub push-requires-in-Star-clause-low : goal.push-requires-in-Star-clause-low
push-requires-in-Star-clause-low c = omega (arith, c.from-in-Star.ensures, within_one c.requires.within (steps_one _ c.in-Star.is))

pub follow-requires-clause-inside : goal.follow-requires-clause-inside
follow-requires-clause-inside c = within_name c.requires.within c.in-Name.is

pub follow-requires-clause-low : goal.follow-requires-clause-low
follow-requires-clause-low c = within_one c.requires.within (steps_name _ c.in-Name.is)

pub returns-in-Empty : goal.returns-in-Empty
returns-in-Empty c = grew_by (steps_none _ c.in-Empty.is) (grew_none _ _ _)

pub returns-in-Element : goal.returns-in-Element
returns-in-Element c = grew_by (steps_element _ c.in-Element.is ∙ ap (◌∷ []) (sym c.from.ensures)) c.push.ensures

pub returns-in-Pair : goal.returns-in-Pair
returns-in-Pair c =
    let w = within_two c.requires.within (steps_two _ c.in-Pair.is) in
    let a = c.from-in-Pair.ensures in
    let b = c.from-in-Pair-2.ensures in
    grew_by (steps_two _ c.in-Pair.is ∙ (λ i. sym a i ∷ sym b i ∷ [])) (grew_two (omega (arith, w.0, a)) c.push-more.ensures c.push-in-Pair.ensures)

pub returns-in-Star : goal.returns-in-Star
returns-in-Star c = grew_by (steps_one _ c.in-Star.is ∙ ap (◌∷ []) (sym c.from-in-Star.ensures)) c.push-in-Star.ensures

pub returns-in-Name : goal.returns-in-Name
returns-in-Name c = grew_by (steps_name _ c.in-Name.is) c.follow.ensures
