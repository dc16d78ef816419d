-- Which row of a choice by number is taken: the first that has the number, and without one what is there otherwise.
-- Assumes nothing.
use mathlib.Core.Path.{◌≡◌, refl, ap}
use mathlib.Core.Logic.{◌≢◌}
use mathlib.Core.List.{List, [], ◌∷◌}
use mathlib.Core.Option.{Option, some}
use mathlib.Core.Bool.{Bool, true, false}
use Prim.Native.Nat.{ℕ}
use borrow.Author.Tests.{eq-eqb, ne_eqb}
use Rattle.meaning.specs.Base.{find, otherwise}
use Rattle.meaning.specs.Queries.{choose}

module _ {A : Type 0} (k j : ℕ) (f : Unit {0} → A) (rows : List (ℕ × (Unit {0} → A))) (d : A) where
  abbrev by : Bool → A
  by b = otherwise {A = Unit {0} → A} (λ _. d) (elim b as (λ _. Option (Unit {0} → A)) [ true ↦ some f | false ↦ find k rows ]) tt

  pub choose_first : k ≡ j → choose k ((j, f) ∷ rows) d ≡ f tt
  unfolding find
  choose_first e = ap by (eq-eqb k j e)

  pub choose_later : k ≢ j → choose k ((j, f) ∷ rows) d ≡ choose k rows d
  unfolding find
  choose_later n = ap by (ne_eqb k j n)

pub choose_none : {A : Type 0} (k : ℕ) (d : A) → choose k [] d ≡ d
unfolding find
choose_none k d = refl
