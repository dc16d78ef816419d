-- The bits of a set: of nothing, of one definition, and of two sets joined.
-- Assumes nothing.
use mathlib.Core.Path.{◌≡◌, refl, ap, sym, ◌∙◌}
use mathlib.Core.Logic.{◌⊎◌, inl, inr}
use mathlib.Core.Bool.{Bool, true, false, ◌||◌, false≢true}
use Prim.Native.Nat.{ℕ, zero, suc, ◌/◌, ◌%◌, ◌^◌}
use native.Mathlib.Omega.{arith}
use native.Mathlib.Decide.{ℕ_discrete}
use native.Mathlib.Nat.{pow-succ', div-div-eq-div-mul}
use lib.Dec.{eqb}
use lib.Bits.{bit_or, or_step}
use borrow.Author.Tests.{eq-eqb, ne_eqb, eqb-true}
use Rattle.guard.specs.Sets.{bit}

odd_or : (a b : ℕ) → eqb (bit_or a b % 2) 1 ≡ (eqb (a % 2) 1 || eqb (b % 2) 1)
odd_or a b = go (ℕ_discrete (a % 2) 1) (ℕ_discrete (b % 2) 1)
  where
    go : Dec (a % 2 ≡ 1) → Dec (b % 2 ≡ 1) → eqb (bit_or a b % 2) 1 ≡ (eqb (a % 2) 1 || eqb (b % 2) 1)
    go (yes p) _ = simp (eq-eqb (bit_or a b % 2) 1 (omega (arith, or_step a b)), eq-eqb (a % 2) 1 p)
    go (no p) (yes q) = simp (eq-eqb (bit_or a b % 2) 1 (omega (arith, or_step a b)), ne_eqb (a % 2) 1 p, eq-eqb (b % 2) 1 q)
    go (no p) (no q) = simp (ne_eqb (bit_or a b % 2) 1 (λ h. omega (arith, or_step a b)), ne_eqb (a % 2) 1 p, ne_eqb (b % 2) 1 q)

half_or : (a b : ℕ) → bit_or a b / 2 ≡ bit_or (a / 2) (b / 2)
half_or a b = omega (arith, or_step a b)

bit_or_lem : (a b d : ℕ) → bit (bit_or a b) d ≡ (bit a d || bit b d)
unfolding bit
bit_or_lem a b zero = odd_or a b
bit_or_lem a b (suc d) = ap (λ (n : ℕ). bit n d) (half_or a b) ∙ bit_or_lem (a / 2) (b / 2) d

either : (a b : Bool) → a || b ≡ true → (a ≡ true) ⊎ (b ≡ true)
either true b h = inl refl
either false b h = inr h

right : (a b : Bool) → b ≡ true → a || b ≡ true
right true b h = refl
right false b h = h

pub or_cases : (a b d : ℕ) → bit (bit_or a b) d ≡ true → (bit a d ≡ true) ⊎ (bit b d ≡ true)
or_cases a b d h = either (bit a d) (bit b d) (sym (bit_or_lem a b d) ∙ h)

pub or_left : (a b d : ℕ) → bit a d ≡ true → bit (bit_or a b) d ≡ true
or_left a b d h = bit_or_lem a b d ∙ rw h

pub or_right : (a b d : ℕ) → bit b d ≡ true → bit (bit_or a b) d ≡ true
or_right a b d h = bit_or_lem a b d ∙ right (bit a d) (bit b d) h

pub bit_none : (d : ℕ) → bit 0 d ≡ false
unfolding bit
bit_none zero = refl
bit_none (suc d) = bit_none d

-- the set of one definition
half_power : (k : ℕ) → 2 ^ suc k / 2 ≡ 2 ^ k
half_power k = omega (arith, pow-succ' 2 k)

pub bit_one : (d : ℕ) → bit (2 ^ d) d ≡ true
unfolding bit
bit_one zero = refl
bit_one (suc d) = ap (λ (n : ℕ). bit n d) (half_power d) ∙ bit_one d

pub bit_only : (k d : ℕ) → bit (2 ^ k) d ≡ true → k ≡ d
unfolding bit
bit_only zero zero h = refl
bit_only zero (suc d) h = absurd (false≢true (sym (bit_none d) ∙ h))
bit_only (suc k) zero h = absurd (omega (arith, pow-succ' 2 k, eqb-true (2 ^ suc k % 2) 1 h))
bit_only (suc k) (suc d) h = ap suc (bit_only k d (sym (ap (λ (n : ℕ). bit n d) (half_power k)) ∙ h))

-- a digit by shifting
pub bit_shift : (set d : ℕ) → bit set d ≡ eqb (set / 2 ^ d % 2) 1
unfolding bit
bit_shift set zero = ap (λ (n : ℕ). eqb (n % 2) 1) {x = set} {y = set / 1} (omega arith)
bit_shift set (suc d) = bit_shift (set / 2) d ∙ ap (λ (n : ℕ). eqb (n % 2) 1) (div-div-eq-div-mul set 2 (2 ^ d) ∙ ap (λ (n : ℕ). set / n) (sym (pow-succ' 2 d)))
