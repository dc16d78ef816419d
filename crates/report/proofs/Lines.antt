-- A number's digits: one, or one behind the others.
-- Assumes nothing.
use mathlib.Core.Path.{◌≡◌, ap}
use mathlib.Core.Bool.{Bool, true, false}
use mathlib.Core.List.{List, [], ◌∷◌, ◌++◌}
use Prim.Native.Nat.{ℕ, suc, ◌/◌, ◌%◌, ◌≤◌, ◌<◌}
use borrow.Author.Tests.{lt-ltb, le-ltb}
use Rattle.report.specs.Text.{digit_ascii, spelled}

-- a number of one digit, and one of more
pub spelled_one : (most n : ℕ) → n < 10 → spelled (suc most) n ≡ digit_ascii n ∷ []
unfolding spelled
spelled_one most n l =
    ap (λ (b : Bool). elim b as (λ _. List ℕ) [ true ↦ digit_ascii n ∷ [] | false ↦ spelled most (n / 10) ++ (digit_ascii (n % 10) ∷ []) ]) (lt-ltb n 10 l)

pub spelled_more : (most n : ℕ) → 10 ≤ n → spelled (suc most) n ≡ spelled most (n / 10) ++ (digit_ascii (n % 10) ∷ [])
unfolding spelled
spelled_more most n l =
    ap (λ (b : Bool). elim b as (λ _. List ℕ) [ true ↦ digit_ascii n ∷ [] | false ↦ spelled most (n / 10) ++ (digit_ascii (n % 10) ∷ []) ]) (le-ltb n 10 l)
