-- A variable among the first so many that a table has.
-- Assumes nothing.
use mathlib.Core.Path.{◌≡◌, refl, sym, ap, ◌∙◌}
use mathlib.Core.Bool.{true, false}
use mathlib.Core.List.{List, [], ◌∷◌}
use Prim.Native.Nat.{ℕ, suc, ◌+◌, ◌≤◌, ◌<◌}
use native.Mathlib.Omega.{arith}
use native.Mathlib.Numerals.{add-one}
use borrow.Author.Tests.{eq-eqb, ne_eqb}
use lib.ListN.{length, drop, drop_of_length-le}
use lib.Seq.{drop-cons}
use Rattle.meaning.specs.Base.{find, is_some}
use Rattle.meaning.specs.Records.{Var, var_of}
use Rattle.tables.specs.Rows.{var_at}

-- looking on from the i-th is looking through all
pub record Looking (vs : List (ℕ × Var)) (v i : ℕ) : Type 0 where
  pub within : i ≤ length vs
  pub same : is_some (find v (drop i (vs))) ≡ is_some (find v (vs))

pub look : (vs : List (ℕ × Var)) (v : ℕ) → Looking vs v 0
look vs v = record { within = omega arith; same = refl }

split : (vs : List (ℕ × Var)) (i : ℕ) → i < length vs → drop i vs ≡ var_at vs i ∷ drop (suc i) vs
split vs i l = drop-cons vs i (0, var_of 0 0) l

first_is : (v : ℕ) (r : ℕ × Var) (l : List (ℕ × Var)) → r.0 ≡ v → is_some (find v (r ∷ l)) ≡ true
unfolding find
first_is v r l e = rw (find, eq-eqb v r.0 (sym e))

first_not : (v : ℕ) (r : ℕ × Var) (l : List (ℕ × Var)) → (r.0 ≡ v → ⊥) → is_some (find v (r ∷ l)) ≡ is_some (find v l)
unfolding find
first_not v r l e = rw (find, ne_eqb v r.0 (λ p. e (sym p)))

module _ {vs : List (ℕ × Var)} {v i : ℕ} (h : Looking vs v i) where
  pub found_here : i < length vs → (x : ℕ × Var) → x ≡ var_at vs i → x.0 ≡ v → true ≡ is_some (find v vs)
  found_here l x is e = sym (first_is v (var_at vs i) (drop (suc i) vs) (ap (λ (y : ℕ × Var). y.0) (sym is) ∙ e)) ∙ rw (← split vs i l) h.same

  pub not_here : i < length vs → (x : ℕ × Var) → x ≡ var_at vs i → (x.0 ≡ v → ⊥) → Looking vs v (i + 1)
  not_here l x is e =
      record {
        within = omega arith;
        same = rw (add-one i) (sym (first_not v (var_at vs i) (drop (suc i) vs) (λ p. e (ap (λ (y : ℕ × Var). y.0) is ∙ p))) ∙ rw (← split vs i l) h.same);
      }

  pub not_found : length vs ≤ i → false ≡ is_some (find v vs)
  unfolding find
  not_found l =
      let none : drop i vs ≡ [] = drop_of_length-le vs {i = i} l in
      rw none at h.same
