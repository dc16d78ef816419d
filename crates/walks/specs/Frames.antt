-- The stack of a walk over a type: what its words say, and what a step leaves.
-- Assumes nothing.
use Rattle.std.specs.Prelude.{◌≡◌, cond, List, ℕ, suc, ◌-◌, ◌/◌, ◌%◌, ◌<◌, ◌≤◌, ltb, length, set}
use Rattle.meaning.specs.Types.{Entry, Table, at, empty, string, element, pair, union, star, plus, opt, name}
use Rattle.acts.specs.declared.Act.{Act}
use Rattle.walks.specs.declared.Frame.{Frame}
use Rattle.walks.specs.declared.Next.{Next}
use Rattle.walks.specs.declared.Then.{Then}

-- the frame that a word says
unfoldable pub frame_of : ℕ → Frame
frame_of w = cond (ltb w 24576) (Frame.Half (w / 4096) (w % 4096)) (cond (ltb w 36864) (Frame.Alone (w / 4096)) (Frame.Joined (w / 4096 - 5) (w % 4096)))

-- the frame of entry e that is begun, where an entry of kind k is to be appended
abbrev pub begun : ℕ → ℕ → Frame
begun k e = cond (ltb k 6) (Frame.Half k e) (Frame.Alone k)

-- a frame that a word can say
abbrev pub Fit : Frame → Type 0
Fit (Frame.Half k e) = (k < 6) × (e < 4096)
Fit (Frame.Alone k) = (6 ≤ k) × (k < 9)
Fit (Frame.Joined k l) = (4 ≤ k) × (k < 6) × (l < 4096)

-- the second part of an entry that has two
unfoldable pub second : Entry → ℕ
second empty = 0
second string = 0
second (element l c) = 0
second (pair a b) = b
second (union a b) = b
second (star a) = 0
second (plus a) = 0
second (opt a) = 0
second (name d) = 0

unfoldable pub Paired : Entry → Type 0
Paired empty = ⊥
Paired string = ⊥
Paired (element l c) = ⊥
Paired (pair a b) = Unit {0}
Paired (union a b) = Unit {0}
Paired (star a) = ⊥
Paired (plus a) = ⊥
Paired (opt a) = ⊥
Paired (name d) = ⊥

-- a frame that waits for a first part is of an entry that has two
abbrev pub Halved : Table → Frame → Type 0
Halved T (Frame.Half k e) = (e < length T) × Paired (at T e)
Halved T (Frame.Alone k) = Unit {0}
Halved T (Frame.Joined k l) = Unit {0}

-- STEPS. Down, by what a rule does at entry e: where the walk stands then, and the words of its stack
abbrev pub down_of : Act → ℕ → Next
down_of (Act.Answer r) top = Next.Up r top
down_of (Act.Into p) top = Next.Down p top
down_of (Act.First k a) top = Next.Down a (suc top)

abbrev pub Pushed : Act → ℕ → ℕ → List ℕ → List ℕ → Type 0
Pushed (Act.Answer r) e top st us = us ≡ st
Pushed (Act.Into p) e top st us = us ≡ st
Pushed (Act.First k a) e top st us = (w : ℕ) × (us ≡ set st top w) × (frame_of w ≡ begun k e)

-- what a frame does with an answer
abbrev pub then_of : Table → Frame → ℕ → Then
then_of T (Frame.Half k e) l = Then.Second (Frame.Joined k l) (second (at T e))
then_of T (Frame.Alone k) r = Then.Append (record { kind = k; a = r; b = 0 })
then_of T (Frame.Joined k l) r = Then.Append (record { kind = k; a = l; b = r })
