-- Frames on one another: later in the text, one more, one less, and how many there are.
-- Assumes nothing.
use mathlib.Core.List.{List, [], ◌∷◌}
use Prim.Native.Nat.{ℕ, ◌+◌, ◌*◌, ◌≤◌}
use native.Mathlib.Omega.{arith}
use lib.ListN.{length}
use Rattle.items.specs.Machine as Machine
use Rattle.items.specs.Machine.{Frame, opens, depth, waits, pairs, Flat, Stands, Level, Deep, AllDeep}
use Rattle.items.specs.Says.{Well}

-- LATER in the text
deep_later : (s : List ℕ) {at next : ℕ} → at ≤ next → (f : Frame) → Deep s at f → Deep s next f
deep_later s h (Machine.tail k deep ms) d = omega (arith, d)
deep_later s h (Machine.second m) d = tt
deep_later s h Machine.group d = tt
deep_later s h (Machine.inside l) d = tt
deep_later s h (Machine.source b v k deep) d = omega (arith, d)
deep_later s h (Machine.body b v p) d = tt
deep_later s h (Machine.guarded c) d = tt

all_later : (s : List ℕ) {at next : ℕ} → at ≤ next → (fs : List Frame) → AllDeep s at fs → AllDeep s next fs
unfolding AllDeep
all_later s h [] d = tt
all_later s h (f ∷ fs) d = (deep_later s h f d.0, all_later s h fs d.1)

pub well_later : {s : List ℕ} {at next n m : ℕ} {fs : List Frame} → Well s at fs n → at ≤ next → n ≤ m → Well s next fs m
well_later {s} {fs = fs} w h k = record { deep = all_later s h fs w.deep; level = w.level; low = w.low; few = omega (arith, w.few); most = w.most }

-- ONE LESS
opens_most : (f : Frame) (n : ℕ) → n ≤ opens f n
opens_most (Machine.tail k deep ms) n = omega arith
opens_most (Machine.second m) n = omega arith
opens_most Machine.group n = omega arith
opens_most (Machine.inside l) n = omega arith
opens_most (Machine.source b v k deep) n = omega arith
opens_most (Machine.body b v p) n = omega arith
opens_most (Machine.guarded c) n = omega arith

waits_most : (f : Frame) (n : ℕ) → n ≤ waits f n
waits_most (Machine.tail k deep ms) n = omega arith
waits_most (Machine.second m) n = omega arith
waits_most Machine.group n = omega arith
waits_most (Machine.inside l) n = omega arith
waits_most (Machine.source b v k deep) n = omega arith
waits_most (Machine.body b v p) n = omega arith
waits_most (Machine.guarded c) n = omega arith

pub pairs_under : (f : Frame) (fs : List Frame) → pairs fs ≤ pairs (f ∷ fs)
unfolding pairs
pairs_under f fs = waits_most f (pairs fs)

pub depth_under : (f : Frame) (fs : List Frame) → depth fs ≤ depth (f ∷ fs)
unfolding depth
depth_under f fs = opens_most f (depth fs)

pub well_under : {s : List ℕ} {at n : ℕ} (f : Frame) {fs : List Frame} → Well s at (f ∷ fs) n → Well s at fs n
unfolding AllDeep Level
well_under f {fs} w = record { deep = w.deep.1; level = w.level.1; low = omega (arith, w.low, depth_under f fs); few = omega (arith, w.few, pairs_under f fs); most = omega (arith, w.most, pairs_under f fs) }

pub stands : {s : List ℕ} {at n : ℕ} {f : Frame} {fs : List Frame} → Well s at (f ∷ fs) n → Stands f fs
unfolding Level
stands w = w.level.0

pub deep : {s : List ℕ} {at n : ℕ} {f : Frame} {fs : List Frame} → Well s at (f ∷ fs) n → Deep s at f
unfolding AllDeep
deep w = w.deep.0

-- ONE MORE
pub well_on : {s : List ℕ} {at n : ℕ} (f : Frame) {fs : List Frame} → Well s at fs n → Deep s at f → Stands f fs → depth (f ∷ fs) ≤ 100 → pairs (f ∷ fs) ≤ n → pairs (f ∷ fs) ≤ 1024 → Well s at (f ∷ fs) n
unfolding AllDeep Level
well_on f w d l low few most = record { deep = (d, w.deep); level = (l, w.level); low = low; few = few; most = most }

-- HOW MANY there are: one for each that is open and each pair that waits, and a tail on each of the first
mutual_bound : (fs : List Frame) → Level fs → (length fs ≤ 2 * depth fs + pairs fs + 1) × (Flat fs → length fs ≤ 2 * depth fs + pairs fs)
unfolding Level depth pairs
mutual_bound [] l = (omega arith, λ _. omega arith)
mutual_bound (Machine.tail k d ms ∷ fs) l = let r = mutual_bound fs l.1 in (omega (arith, r.1 l.0.1), λ no. absurd no)
mutual_bound (Machine.second m ∷ fs) l = let r = mutual_bound fs l.1 in (omega (arith, r.1 l.0), λ _. omega (arith, r.1 l.0))
mutual_bound (Machine.group ∷ fs) l = let r = mutual_bound fs l.1 in (omega (arith, r.0), λ _. omega (arith, r.0))
mutual_bound (Machine.inside i ∷ fs) l = let r = mutual_bound fs l.1 in (omega (arith, r.0), λ _. omega (arith, r.0))
mutual_bound (Machine.source b v k d ∷ fs) l = let r = mutual_bound fs l.1 in (omega (arith, r.0), λ _. omega (arith, r.0))
mutual_bound (Machine.body b v p ∷ fs) l = let r = mutual_bound fs l.1 in (omega (arith, r.0), λ _. omega (arith, r.0))
mutual_bound (Machine.guarded c ∷ fs) l = let r = mutual_bound fs l.1 in (omega (arith, r.0), λ _. omega (arith, r.0))

pub bounded : {s : List ℕ} {at n : ℕ} {fs : List Frame} → Well s at fs n → length fs ≤ 1225
bounded {fs = fs} w = omega (arith, (mutual_bound fs w.level).0, w.low, w.most)
