-- The stack of tasks: frames that it shows stay when tasks above them are stored, and where there are more nodes.
-- Assumes nothing.
use mathlib.Core.Path.{◌≡◌, refl, sym, subst}
use mathlib.Core.List.{List, [], ◌∷◌}
use Prim.Native.Nat.{ℕ, ◌≤◌, ◌<◌}
use native.Mathlib.Omega.{arith}
use lib.ListN.{length, set}
use lib.Seq.{get_or-set_same, get_or-set_other}
use Rattle.meaning.specs.Queries.{Query}
use Rattle.items.specs.declared.Open.{Open}
use Rattle.items.specs.declared.Task.{Task}
use Rattle.items.specs.Machine.{Frame, Kept, Shown, shows_tail, shows_second, shows_group, shows_inside, shows_source, shows_body, shows_guarded, many}
use Rattle.parses.specs.Says.{Tasked, task_at, Stacked, list}

-- WHERE THERE ARE MORE NODES
kept_later : {n m : ℕ} → n ≤ m → (ms : List Query) → Kept n ms → Kept m ms
kept_later l [] k = tt
kept_later l (q ∷ ms) k = omega (arith, l, k)

shown_later : {n m : ℕ} {f : Frame} {x : Open} → n ≤ m → Shown n f x → Shown m f x
shown_later l (shows_tail {ms = ms} k) = shows_tail (kept_later l ms k)
shown_later l (shows_second {m = q} s) = shows_second {m = q} (λ h. s (omega (arith, l, h)))
shown_later l shows_group = shows_group
shown_later l shows_inside = shows_inside
shown_later l shows_source = shows_source
shown_later l (shows_body {p = p} s) = shows_body {p = p} (λ h. s (omega (arith, l, h)))
shown_later l (shows_guarded {c = c} s) = shows_guarded {c = c} (λ h. s (omega (arith, l, h)))

tasked_later : {n m : ℕ} (f : Frame) (t : Task) → n ≤ m → Tasked n f t → Tasked m f t
tasked_later f (Task.Item deep) l none = none
tasked_later f (Task.Behind x) l s = shown_later l s

pub stacked_later : {n m : ℕ} (st : List Task) → n ≤ m → (fs : List Frame) → Stacked n st fs → Stacked m st fs
unfolding Stacked
stacked_later st l [] s = tt
stacked_later st l (f ∷ fs) s = (tasked_later f (task_at st (length fs)) l s.0, stacked_later st l fs s.1)

-- A TASK that is stored above them
pub stacked_put : (st : List Task) (e : ℕ) (t : Task) (n : ℕ) (fs : List Frame) → length fs ≤ e → Stacked n st fs → Stacked n (set st e t) fs
unfolding Stacked
stacked_put st e t n [] l s = tt
stacked_put st e t n (f ∷ fs) l s = (subst (Tasked n f) (sym (get_or-set_other st e (length fs) t (Task.Item 0) (λ p. omega (arith, l, p)))) s.0, stacked_put st e t n fs (omega (arith, l)) s.1)

-- and a frame that is stored there
pub stacked_on : (st : List Task) (e : ℕ) (x : Open) (n : ℕ) (f : Frame) (fs : List Frame) → e < length st → length fs ≡ e → Shown n f x → Stacked n st fs → Stacked n (set st e (Task.Behind x)) (f ∷ fs)
unfolding Stacked
stacked_on st e x n f fs h l shown s = (rw l (subst (Tasked n f) (sym (get_or-set_same st e (Task.Behind x) (Task.Item 0) h)) shown), stacked_put st e (Task.Behind x) n fs (omega (arith, l)) s)

-- WHAT A FRAME'S TASK is
pub behind_is : {n : ℕ} (f : Frame) (t : Task) → Tasked n f t → (x : Open) × (t ≡ Task.Behind x) × Shown n f x
behind_is f (Task.Item deep) none = absurd none
behind_is f (Task.Behind x) s = (x, refl, s)

-- WHICH FRAMES have items behind them
pub list_is : {n : ℕ} {f : Frame} {x : Open} → Shown n f x → list x ≡ many f
list_is (shows_tail k) = refl
list_is (shows_second s) = refl
list_is shows_group = refl
list_is shows_inside = refl
list_is shows_source = refl
list_is (shows_body s) = refl
list_is (shows_guarded s) = refl
