-- Zeros, and a part to the end of a list that is lent and comes back.
-- Assumes nothing.
use mathlib.Core.Path.{◌≡◌, sym, ap, ◌∙◌}
use mathlib.Core.List.{List, ◌++◌, append-nil}
use Prim.Native.Nat.{ℕ, zero, suc, ◌+◌, ◌-◌, ◌≤◌}
use native.Mathlib.Nat.{sub-zero, zero-sub, suc-sub-suc}
use native.Mathlib.Omega.{arith}
use lib.ListN.{length, take, drop, length-append, length-drop, drop_of_length-le, replicate-append-replicate}
use lib.Seq.{take_all, length-take-le}
use Rattle.meaning.specs.Base.{zeros}
use Rattle.words.proofs.Rows.{zeros_length}

pub drop_zeros : (k n : ℕ) → drop k (zeros n) ≡ zeros (n - k)
unfolding zeros
drop_zeros zero n = ap zeros (sym (sub-zero n))
drop_zeros (suc k) zero = ap zeros (sym (zero-sub (suc k)))
drop_zeros (suc k) (suc n) = drop_zeros k n ∙ ap zeros (sym (suc-sub-suc n k))

pub zeros_append : (k n : ℕ) → zeros k ++ zeros n ≡ zeros (k + n)
unfolding zeros
zeros_append k n = replicate-append-replicate {A = ℕ} k n 0

-- a list that is so many zeros is as many as it is long
pub blank_self : {xs : List ℕ} (n : ℕ) → xs ≡ zeros n → xs ≡ zeros (length xs)
blank_self n e = e ∙ ap zeros (sym (ap length e ∙ zeros_length n))

pub lent : (a : ℕ) (xs : List ℕ) → take (length xs - a) (drop a xs) ≡ drop a xs
lent a xs = take_all (length xs - a) (drop a xs) (omega (arith, length-drop a xs))

pub back : (a : ℕ) (xs ys : List ℕ) → take a xs ++ (ys ++ drop (length xs - a) (drop a xs)) ≡ take a xs ++ ys
back a xs ys =
    ap (λ (l : List ℕ). take a xs ++ (ys ++ l)) (drop_of_length-le (drop a xs) {i = length xs - a} (omega (arith, length-drop a xs)))
    ∙ ap (λ (l : List ℕ). take a xs ++ l) (append-nil ys)

pub back_length : (a : ℕ) (xs ys : List ℕ) → a ≤ length xs → length ys ≡ length (take (length xs - a) (drop a xs)) → length (take a xs ++ (ys ++ drop (length xs - a) (drop a xs))) ≡ length xs
back_length a xs ys h e = ap length (back a xs ys) ∙ length-append (take a xs) ys ∙ omega (arith, e, ap length (lent a xs), length-drop a xs, length-take-le a xs h)
