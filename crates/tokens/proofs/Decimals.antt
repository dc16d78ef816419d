-- Decimal numbers that are told apart below 65,536 alone.
-- Assumes nothing.
use mathlib.Core.Path.{◌≡◌, sym, ap, ◌∙◌}
use mathlib.Core.List.{List, [], ◌∷◌}
use Prim.Native.Nat.{ℕ, ◌+◌, ◌*◌, ◌-◌, ◌≤◌, ◌<◌, min}
use native.Mathlib.Omega.{arith}
use native.Mathlib.Numerals.{add-one}
use lib.ListN.{length, get_or, drop, drop_of_length-le}
use lib.Seq.{drop-cons}
use Rattle.meaning.specs.Tokens.{decimal}

-- a number that stands for another, from 65,536 on for any
step_alike : (a b d : ℕ) → min a 65536 ≡ min b 65536 → min (10 * a + d) 65536 ≡ min (10 * b + d) 65536
step_alike a b d h = omega arith

pub decimal_alike : (s : List ℕ) (a b : ℕ) → min a 65536 ≡ min b 65536 → min (decimal a s) 65536 ≡ min (decimal b s) 65536
unfolding decimal
decimal_alike [] a b h = h
decimal_alike (c ∷ s) a b h = decimal_alike s (10 * a + (c - 48)) (10 * b + (c - 48)) (step_alike a b (c - 48) h)

decimal_drop : (s : List ℕ) (i n : ℕ) → i < length s → decimal n (drop i s) ≡ decimal (10 * n + (get_or s i 0 - 48)) (drop (i + 1) s)
unfolding decimal
decimal_drop s i n h = ap (λ (l : List ℕ). decimal n l) (drop-cons s i 0 h) ∙ ap (λ (k : ℕ). decimal (10 * n + (get_or s i 0 - 48)) (drop k s)) (sym (add-one i))

-- WHAT THE DIGITS SO FAR ARE, those before byte i
pub record Valued (s : List ℕ) (i n : ℕ) : Type 0 where
  pub inside : i ≤ length s
  pub small : n ≤ 65536
  pub is : min (decimal 0 s) 65536 ≡ min (decimal n (drop i s)) 65536

module _ {s : List ℕ} {i n : ℕ} (v : Valued s i n) where
  pub valued_next : i < length s → {m : ℕ} → m ≡ min (10 * n + (get_or s i 0 - 48)) 65536 → Valued s (i + 1) m
  valued_next h {m} e =
      record {
        inside = omega arith;
        small = omega (arith, e);
        is = v.is ∙ ap (λ (x : ℕ). min x 65536) (decimal_drop s i n h) ∙ decimal_alike (drop (i + 1) s) (10 * n + (get_or s i 0 - 48)) m (omega (arith, e));
      }

  pub valued_all : length s ≤ i → n ≡ min (decimal 0 s) 65536
  unfolding decimal
  valued_all h = sym (v.is ∙ ap (λ (l : List ℕ). min (decimal n l) 65536) (drop_of_length-le s h) ∙ omega (arith, v.small))
