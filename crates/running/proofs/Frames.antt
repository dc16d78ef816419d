-- The frames of a stack: one more, and one taken from it.
-- Assumes nothing.
use mathlib.Core.Path.{◌≡◌, refl, ap, ◌∙◌}
use mathlib.Core.Logic.{◌≢◌}
use mathlib.Core.List.{List, [], ◌∷◌}
use Prim.Native.Nat.{ℕ, zero, suc, ◌+◌, ◌-◌, ◌≤◌, ◌<◌}
use native.Mathlib.Omega.{arith}
use lib.ListN.{length, get_or, set}
use lib.Seq.{get_or-set_same, get_or-set_other}
use Rattle.std.specs.Prelude as Std
use Rattle.spans.specs.declared.Spans.{Spans}
use Rattle.running.specs.declared.Frame.{Frame}
use Rattle.running.specs.declared.Next.{Next}
use Rattle.running.specs.declared.Stack.{Stack}
use Rattle.running.specs.Machine.{turn, fresh, piled, pile}

pub piled_length : (fs : List Frame) (i : ℕ) → length (piled fs i) ≡ i
unfolding piled
piled_length fs zero = refl
piled_length fs (suc i) = ap suc (piled_length fs i)

piled_set : (fs : List Frame) (i n : ℕ) (f : Frame) → i ≤ n → piled (set fs n f) i ≡ piled fs i
unfolding piled
piled_set fs zero n f h = refl
piled_set fs (suc i) n f h = rw (get_or-set_other fs n i f (fresh 0 0) (omega arith), piled_set fs i n f (omega arith)) refl

pushed : (fs : List Frame) (i : ℕ) (f : Frame) → i < length fs → piled (set fs i f) (suc i) ≡ f ∷ piled fs i
unfolding piled
pushed fs i f h = rw (get_or-set_same fs i f (fresh 0 0) h, piled_set fs i i f (omega arith)) refl

-- a stack with a frame more
pub pile_more : (s : Stack) (f : Frame) → length (pile s) < 1024 → length s.frames ≡ 1024 → pile (record { frames = set s.frames s.top f; top = s.top + 1 }) ≡ f ∷ pile s
pile_more s f room long = let e : s.top + 1 ≡ suc s.top = omega arith in ap (piled (set s.frames s.top f)) e ∙ pushed s.frames s.top f (omega (arith, room, long, piled_length s.frames s.top))

-- a stack with no frame, and its last frame
pub pile_none : (s : Stack) → s.top ≡ 0 → pile s ≡ []
unfolding piled
pile_none s e = ap (piled s.frames) e

pub pile_last : (s : Stack) → s.top ≢ 0 → pile s ≡ get_or s.frames (s.top - 1) (fresh 0 0) ∷ piled s.frames (s.top - 1)
unfolding piled
pile_last s n = let e : s.top ≡ suc (s.top - 1) = omega arith in ap (piled s.frames) e

-- the same step under another name
pub turned : (s : Spans) {a b : Next} → a ≡ b → turn (Std.Ok a) s ≡ turn (Std.Ok b) s
turned s e = ap (λ (z : Next). turn (Std.Ok z) s) e
