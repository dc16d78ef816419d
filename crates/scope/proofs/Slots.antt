-- Binding and unbinding as `find` sees them.
-- Assumes nothing.
use Rattle.std.specs.Prelude as Std
use mathlib.Core.Path.{◌≡◌, refl, sym, ap, ◌∙◌}
use mathlib.Core.Logic.{◌≢◌}
use mathlib.Core.List.{◌∷◌}
use mathlib.Core.Option.{none, some}
use Prim.Native.Nat.{ℕ, ◌<◌}
use native.Mathlib.Omega.{arith}
use native.Mathlib.Decide.{ℕ_discrete}
use borrow.Author.Tests.{eq-eqb, ne_eqb}
use lib.ListN.{length, get_or, set}
use lib.Seq.{get_or-set_same, get_or-set_other, set-set, set-get_or}
use Rattle.meaning.specs.Base.{find}
use Rattle.meaning.specs.Records as Records
use Rattle.meaning.specs.Typing as Typing
use Rattle.scope.specs.declared.Scope.{Scope}
use Rattle.scope.specs.declared.Var.{Var}
use Rattle.scope.specs.Shows.{var_of, found, bound, Shows}

-- nothing is found only where nothing stands
pub found_none : (o : Std.Option Var) → found o ≡ none → o ≡ Std.None
found_none Std.None h = refl
found_none (Std.Some x) h = let z : ◌≡◌ {A = ℕ} 0 1 = cc in absurd (omega arith)

find_same : (g : Typing.Scope) (v w : ℕ) (y : Records.Var) → w ≡ v → find w ((v, y) ∷ g) ≡ some y
unfolding find
find_same g v w y p = rw (p, eq-eqb v v refl, find)

find_other : (g : Typing.Scope) (v w : ℕ) (y : Records.Var) → w ≢ v → find w ((v, y) ∷ g) ≡ find w g
unfolding find
find_other g v w y p = rw (find, ne_eqb w v p)

module _ (s : Scope) (g : Typing.Scope) (v : ℕ) (low : v < length s.slots) where
  pub shows_bind : (x : Var) → Shows s g → Shows (bound s v (Std.Some x)) ((v, var_of x) ∷ g)
  shows_bind x h w l = go (ℕ_discrete w v)
    where
      go : Dec (w ≡ v) → found (get_or (set s.slots v (Std.Some x)) w Std.None) ≡ find w ((v, var_of x) ∷ g)
      go (yes p) = rw (find_same g v w (var_of x) p, p, get_or-set_same s.slots v (Std.Some x) Std.None low) refl
      go (no p) = rw (find_other g v w (var_of x) p, get_or-set_other s.slots v w (Std.Some x) Std.None p) (h w l)

  -- unbinding what was bound gives the scope back
  pub unbind_bind : (x : Std.Option Var) → get_or s.slots v Std.None ≡ Std.None → bound (bound s v x) v Std.None ≡ s
  unbind_bind x e = λ i. record { slots = (set-set s.slots v x Std.None ∙ ap (set s.slots v) (sym e) ∙ set-get_or s.slots v Std.None) i }
