-- One answer after another: the first refusal, or the second answer.
-- Assumes nothing.
use mathlib.Core.Path.{ap, ◌∙◌}
use Prim.Native.Nat.{ℕ}
use Rattle.meaning.specs.Base.{Out, ok, refused, ◌>>=◌}
use Rattle.meaning.specs.Typing as Typing
use Rattle.scope.specs.declared.Scope.{Scope}
use Rattle.conds.specs.Says.{Answers}

module _ {A B : Type 0} {s : Scope} {f : Typing.Scope → Out A} (k : A → Typing.Scope → Out B) where
  pub first_stops : {m place : ℕ} → Answers s (refused m place) f → Answers s (refused m place) (λ g. f g >>= λ x. k x g)
  first_stops a = record { is = λ g h. ap (λ (o : Out A). o >>= λ x. k x g) (a.is g h) }

  pub first_passes : {x : A} {told : Out B} → Answers s (ok x) f → Answers s told (k x) → Answers s told (λ g. f g >>= λ y. k y g)
  first_passes a b = record { is = λ g h. b.is g h ∙ ap (λ (o : Out A). o >>= λ y. k y g) (a.is g h) }
