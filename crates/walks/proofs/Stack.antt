-- The words of a stack: the frames that they say, and a word more or another one on top.
-- Assumes nothing.
use mathlib.Core.Path.{◌≡◌, refl, ap, ◌∙◌}
use mathlib.Core.List.{List, [], ◌∷◌}
use Prim.Native.Nat.{ℕ, zero, suc, ◌+◌, ◌*◌, ◌-◌, ◌/◌, ◌%◌, ◌≤◌, ◌<◌}
use native.Mathlib.Omega.{arith}
use borrow.Author.Tests.{lt-ltb, le-ltb}
use lib.ListN.{length, get_or, set}
use lib.Seq.{get_or-set_same, get_or-set_other}
use Rattle.walks.specs.Frames.{frame_of, begun}
use Rattle.walks.specs.declared.Frame.{Frame}

-- BY THE WORD
module _ (w : ℕ) where
  pub frame_half : w < 24576 → frame_of w ≡ Frame.Half (w / 4096) (w % 4096)
  unfolding frame_of
  frame_half h = rw (lt-ltb w 24576 h)

  pub frame_alone : 24576 ≤ w → w < 36864 → frame_of w ≡ Frame.Alone (w / 4096)
  unfolding frame_of
  frame_alone l h = rw (le-ltb w 24576 l, lt-ltb w 36864 h)

  pub frame_joined : 36864 ≤ w → frame_of w ≡ Frame.Joined (w / 4096 - 5) (w % 4096)
  unfolding frame_of
  frame_joined l = rw (le-ltb w 24576 (omega arith), le-ltb w 36864 l)

-- BY WHAT IT IS TO SAY
module _ (k e : ℕ) (low : e < 4096) where
  pub says_half : k < 6 → frame_of (k * 4096 + e) ≡ Frame.Half k e
  says_half h =
      let p : (k * 4096 + e) / 4096 ≡ k = omega arith in
      let q : (k * 4096 + e) % 4096 ≡ e = omega arith in
      frame_half (k * 4096 + e) (omega arith) ∙ (λ i. Frame.Half (p i) (q i))

  pub says_joined : 4 ≤ k → frame_of ((k + 5) * 4096 + e) ≡ Frame.Joined k e
  says_joined l =
      let p : ((k + 5) * 4096 + e) / 4096 - 5 ≡ k = omega arith in
      let q : ((k + 5) * 4096 + e) % 4096 ≡ e = omega arith in
      frame_joined ((k + 5) * 4096 + e) (omega arith) ∙ (λ i. Frame.Joined (p i) (q i))

pub says_alone : (k : ℕ) → 6 ≤ k → k < 9 → frame_of (k * 4096) ≡ Frame.Alone k
says_alone k l h =
    let p : k * 4096 / 4096 ≡ k = omega arith in
    frame_alone (k * 4096) (omega arith) (omega arith) ∙ ap Frame.Alone p

-- the frame of an entry that is begun
pub begun_half : (k e : ℕ) → k < 6 → begun k e ≡ Frame.Half k e
begun_half k e l = rw (lt-ltb k 6 l)

pub begun_alone : (k e : ℕ) → 6 ≤ k → begun k e ≡ Frame.Alone k
begun_alone k e l = rw (le-ltb k 6 l)

-- THE FRAMES of the first so many words, the last one first
unfoldable pub frames : List ℕ → ℕ → List Frame
frames st zero = []
frames st (suc n) = frame_of (get_or st n 0) ∷ frames st n

frames_kept : (st : List ℕ) (i w n : ℕ) → n ≤ i → frames (set st i w) n ≡ frames st n
unfolding frames
frames_kept st i w zero h = refl
frames_kept st i w (suc n) h =
    let p = get_or-set_other st i n w 0 (omega arith) in
    let q = frames_kept st i w n (omega arith) in
    λ j. frame_of (p j) ∷ q j

pub frames_set : (st : List ℕ) (n w : ℕ) → n < length st → frames (set st n w) (suc n) ≡ frame_of w ∷ frames st n
unfolding frames
frames_set st n w h =
    let p = get_or-set_same st n w 0 h in
    let q = frames_kept st n w n (omega arith) in
    λ j. frame_of (p j) ∷ q j
