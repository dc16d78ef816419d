-- The test word by its three ranges; the kinds of conditions.
-- Assumes nothing.
use mathlib.Core.Path.{◌≡◌}
use mathlib.Core.Bool.{Bool, true}
use Prim.Native.Nat.{ℕ}
use borrow.Author.Tests.{ne_eqb}
use Rattle.meaning.specs.Forests.{Head, is_text, is_labelled, passes}

pub passes_all : (w : ℕ) (h : Head) → w ≡ 0 → true ≡ passes w h
unfolding passes
passes_all w h p = rw p

pub passes_text : (w : ℕ) (h : Head) (b : Bool) → w ≡ 65535 → b ≡ is_text h → b ≡ passes w h
unfolding passes
passes_text w h b p q = rw p q

pub passes_label : (w : ℕ) (h : Head) (b : Bool) → (w ≡ 0 → ⊥) → (w ≡ 65535 → ⊥) → b ≡ is_labelled w h → b ≡ passes w h
unfolding passes
passes_label w h b n m q = simp (passes, ne_eqb w 0 n, ne_eqb w 65535 m) q
