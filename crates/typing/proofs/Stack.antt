-- The stack of the walk: the frames that its words are, the scope that they make, and what they leave to do.
-- Assumes nothing.
use Rattle.std.specs.Prelude as Std
use mathlib.Core.Path.{◌≡◌, refl, ap, subst, ◌∙◌}
use mathlib.Core.List.{List, [], ◌∷◌, ◌++◌}
use mathlib.Core.Option.{Option, none, some}
use Prim.Native.Nat.{ℕ, zero, suc, ◌+◌, ◌*◌, ◌≤◌, ◌<◌}
use native.Mathlib.Omega.{arith}
use lib.ListN.{length, get_or, set, length-set}
use lib.Seq.{get_or-set_same, get_or-set_other}
use Rattle.meaning.specs.Base.{Out, refused}
use Rattle.meaning.specs.Types.{Table, Defs}
use Rattle.meaning.specs.Records as Records
use Rattle.meaning.specs.Records.{Node}
use Rattle.meaning.specs.Queries as Queries
use Rattle.meaning.specs.Queries.{Query, query_at}
use Rattle.meaning.specs.Typing as Typing
use Rattle.scope.specs.declared.Scope.{Scope}
use Rattle.scope.specs.Shows.{Shows, var_of, bound}
use Rattle.scope.proofs.Slots.{shows_bind, unbind_bind}
use Rattle.typing.specs.Walking.{onward, binder, named, coded, inside, outside, Kept, Freed, size, half_cost, cost, begun}

-- a node that is begun, what it keeps, and the variable that it has bound
pub record Frame : Type 0 where
  pub node : ℕ
  pub kept : ℕ
  pub var : Records.Var

-- WHAT A FRAME DOES to scopes
pub named_none : (b : Option ℕ) (y : Records.Var) (s : Scope) → (named b 0 y ≡ []) × (inside b 0 y s ≡ s)
named_none none y s = (refl, refl)
named_none (some v) y s = (refl, refl)

coded_is : (y : Records.Var) → var_of (coded y) ≡ y
coded_is (Records.tree e) = refl
coded_is (Records.forest e) = refl

inside_wide : (b : Option ℕ) (k : ℕ) (y : Records.Var) (s : Scope) → length (inside b k y s).slots ≡ length s.slots
inside_wide none k y s = refl
inside_wide (some v) zero y s = refl
inside_wide (some v) (suc k) y s = length-set s.slots v (Std.Some (coded y))

module _ (s : Scope) (wide : length s.slots ≡ 64) where
  pub outside_inside : (b : Option ℕ) (k : ℕ) (y : Records.Var) → Freed b k s → outside b k (inside b k y s) ≡ s
  outside_inside none k y f = refl
  outside_inside (some v) zero y f = refl
  outside_inside (some v) (suc k) y f = unbind_bind s [] v (omega (arith, f.few, wide)) (Std.Some (coded y)) f.is

  inside_shows : (b : Option ℕ) (k : ℕ) (y : Records.Var) (g : Typing.Scope) → Freed b k s → Shows s g → Shows (inside b k y s) (named b k y ++ g)
  inside_shows none k y g f h = h
  inside_shows (some v) zero y g f h = h
  inside_shows (some v) (suc k) y g f h =
      subst (λ (x : Records.Var). Shows (bound s v (Std.Some (coded y))) ((v, x) ∷ g)) (coded_is y) (shows_bind s g v (omega (arith, f.few, wide)) (coded y) h)

-- a refusal passes
onward_refused : (room : ℕ) (D : Defs) (q : Query) (k : ℕ) (g : Typing.Scope) (n place : ℕ) → onward room D q k g (refused n place) ≡ refused n place
unfolding onward
onward_refused room D (Queries.nothing m) k g n place = refl
onward_refused room D (Queries.text m t) k g n place = refl
onward_refused room D (Queries.element m l q) k g n place = refl
onward_refused room D (Queries.pair m p q) zero g n place = refl
onward_refused room D (Queries.pair m p q) (suc x) g n place = refl
onward_refused room D (Queries.variable m v) k g n place = refl
onward_refused room D (Queries.child m v w) k g n place = refl
onward_refused room D (Queries.dos m v w) k g n place = refl
onward_refused room D (Queries.for m v p q) zero g n place = refl
onward_refused room D (Queries.for m v p q) (suc c) g n place = refl
onward_refused room D (Queries.let_in m v p q) zero g n place = refl
onward_refused room D (Queries.let_in m v p q) (suc x) g n place = refl
onward_refused room D (Queries.when m p q) k g n place = refl

-- an entry that is kept stays among more of them
pub kept_more : {n m : ℕ} (q : Query) (k : ℕ) → n ≤ m → Kept n q k → Kept m q k
kept_more (Queries.nothing i) k l h = tt
kept_more (Queries.text i t) k l h = tt
kept_more (Queries.element i e q) k l h = tt
kept_more (Queries.pair i p q) k l h = omega arith
kept_more (Queries.variable i v) k l h = tt
kept_more (Queries.child i v w) k l h = tt
kept_more (Queries.dos i v w) k l h = tt
kept_more (Queries.for i v p q) k l h = tt
kept_more (Queries.let_in i v p q) k l h = tt
kept_more (Queries.when i p q) k l h = tt

kept_none : (n : ℕ) (q : Query) → Kept n q 0
kept_none n (Queries.nothing i) = tt
kept_none n (Queries.text i t) = tt
kept_none n (Queries.element i e q) = tt
kept_none n (Queries.pair i p q) = omega arith
kept_none n (Queries.variable i v) = tt
kept_none n (Queries.child i v w) = tt
kept_none n (Queries.dos i v w) = tt
kept_none n (Queries.for i v p q) = tt
kept_none n (Queries.let_in i v p q) = tt
kept_none n (Queries.when i p q) = tt

freed_none : (b : Option ℕ) (s : Scope) → Freed b 0 s
freed_none none s = tt
freed_none (some v) s = tt

half_some : (s k : ℕ) → 1 ≤ half_cost s k
half_some s zero = omega arith
half_some s (suc k) = omega arith

cost_some : (q : Query) (k : ℕ) → 1 ≤ cost q k
unfolding cost
cost_some (Queries.nothing n) k = omega arith
cost_some (Queries.text n t) k = omega arith
cost_some (Queries.element n l q) k = omega arith
cost_some (Queries.pair n p q) k = half_some (size q) k
cost_some (Queries.variable n v) k = omega arith
cost_some (Queries.child n v w) k = omega arith
cost_some (Queries.dos n v w) k = omega arith
cost_some (Queries.for n v p q) k = half_some (size q) k
cost_some (Queries.let_in n v p q) k = half_some (size q) k
cost_some (Queries.when n p q) k = omega arith

-- THE FRAMES, the innermost first, over a scope: the scope in which the innermost part is done, as the code has it and as `meaning` has it
module _ (code : List Node) (s : Scope) where
  unfoldable pub scope_of : List Frame → Scope
  scope_of [] = s
  scope_of (f ∷ fs) = inside (binder (query_at code f.node)) f.kept f.var (scope_of fs)

  unfoldable pub names_of : List Frame → Typing.Scope → Typing.Scope
  names_of [] g = g
  names_of (f ∷ fs) g = named (binder (query_at code f.node)) f.kept f.var ++ names_of fs g

  -- what they leave to do with an answer
  unfoldable pub resume : ℕ → Defs → List Frame → Typing.Scope → Out (Table × ℕ) → Out (Table × ℕ)
  resume room D [] g o = o
  resume room D (f ∷ fs) g o = resume room D fs g (onward room D (query_at code f.node) f.kept (names_of fs g) o)

  pub resume_refused : (room : ℕ) (D : Defs) (fs : List Frame) (g : Typing.Scope) (n place : ℕ) → resume room D fs g (refused n place) ≡ refused n place
  unfolding resume
  resume_refused room D [] g n place = refl
  resume_refused room D (f ∷ fs) g n place = ap (resume room D fs g) (onward_refused room D (query_at code f.node) f.kept (names_of fs g) n place) ∙ resume_refused room D fs g n place

  pub scope_wide : (fs : List Frame) → length (scope_of fs).slots ≡ length s.slots
  unfolding scope_of
  scope_wide [] = refl
  scope_wide (f ∷ fs) = inside_wide (binder (query_at code f.node)) f.kept f.var (scope_of fs) ∙ scope_wide fs

  -- how much the words of a stack leave to do
  unfoldable pub work : List ℕ → ℕ → ℕ
  work st zero = 0
  work st (suc i) = cost (query_at code (get_or st (2 * i) 0)) (get_or st (2 * i + 1) 0) + work st i

  pub work_some : (st : List ℕ) (i : ℕ) → work st i < work st (suc i)
  unfolding work
  work_some st i = omega (arith, cost_some (query_at code (get_or st (2 * i) 0)) (get_or st (2 * i + 1) 0))

  -- the words for a frame over d others, fs, in a walk over so many nodes and a table of n entries
  pub record Sound (nodes : ℕ) (st : List ℕ) (n d : ℕ) (f : Frame) (fs : List Frame) : Type 0 where
    pub node : get_or st (2 * d) 0 ≡ f.node
    pub keeps : get_or st (2 * d + 1) 0 ≡ f.kept
    pub low : d + f.node < nodes
    pub few : Kept n (query_at code f.node) f.kept
    pub free : Freed (binder (query_at code f.node)) f.kept (scope_of fs)

  pub data Stack (nodes : ℕ) (st : List ℕ) (n : ℕ) : ℕ → List Frame → Type 0 where
    bottom : Stack nodes st n 0 []
    over : {d : ℕ} {f : Frame} {fs : List Frame} → Sound nodes st n d f fs → Stack nodes st n d fs → Stack nodes st n (suc d) (f ∷ fs)

  -- the top of it
  pub record Top (nodes : ℕ) (st : List ℕ) (n d : ℕ) (fs : List Frame) : Type 0 where
    pub frame : Frame
    pub others : List Frame
    pub is : fs ≡ frame ∷ others
    pub sound : Sound nodes st n d frame others
    pub under : Stack nodes st n d others

  pub top_of : {nodes n d : ℕ} {st : List ℕ} {fs : List Frame} → Stack nodes st n (suc d) fs → Top nodes st n d fs
  top_of (over {f = f} {fs = fs} h k) = record { frame = f; others = fs; is = refl; sound = h; under = k }

  pub stack_shows : {nodes n : ℕ} {st : List ℕ} {d : ℕ} {fs : List Frame} (g : Typing.Scope) → length s.slots ≡ 64 → Stack nodes st n d fs → Shows s g → Shows (scope_of fs) (names_of fs g)
  unfolding scope_of names_of
  stack_shows g wide bottom h = h
  stack_shows g wide (over {f = f} {fs = fs} z k) h =
      inside_shows (scope_of fs) (scope_wide fs ∙ wide) (binder (query_at code f.node)) f.kept f.var (names_of fs g) z.free (stack_shows g wide k h)

  -- more entries, and words that stand higher
  pub stack_more : {nodes n m : ℕ} {st : List ℕ} {d : ℕ} {fs : List Frame} → n ≤ m → Stack nodes st n d fs → Stack nodes st m d fs
  stack_more l bottom = bottom
  stack_more l (over {f = f} h k) = over (record { node = h.node; keeps = h.keeps; low = h.low; few = kept_more (query_at code f.node) f.kept l h.few; free = h.free }) (stack_more l k)

  pub stack_set : {nodes n : ℕ} {st : List ℕ} {fs : List Frame} (d j w : ℕ) → 2 * d ≤ j → Stack nodes st n d fs → Stack nodes (set st j w) n d fs
  stack_set d j w l bottom = bottom
  stack_set {st = st} (suc d) j w l (over h k) =
      over (record { node = get_or-set_other st j (2 * d) w 0 (λ p. omega arith) ∙ h.node; keeps = get_or-set_other st j (2 * d + 1) w 0 (λ p. omega arith) ∙ h.keeps; low = h.low; few = h.few; free = h.free }) (stack_set d j w (omega arith) k)

  pub work_set : (st : List ℕ) (d j w : ℕ) → 2 * d ≤ j → work (set st j w) d ≡ work st d
  unfolding work
  work_set st zero j w l = refl
  work_set st (suc d) j w l =
      rw (get_or-set_other st j (2 * d) w 0 (λ p. omega arith), get_or-set_other st j (2 * d + 1) w 0 (λ p. omega arith)) (ap (λ (x : ℕ). cost (query_at code (get_or st (2 * d) 0)) (get_or st (2 * d + 1) 0) + x) (work_set st d j w (omega arith)))

  -- ONE MORE FRAME
  module _ (st : List ℕ) (d n : ℕ) (room : 2 * d + 1 < length st) where
    begun_node : get_or (begun st d n) (2 * d) 0 ≡ n
    begun_node = get_or-set_other (set st (2 * d) n) (2 * d + 1) (2 * d) 0 0 (λ p. omega arith) ∙ get_or-set_same st (2 * d) n 0 (omega arith)

    begun_kept : get_or (begun st d n) (2 * d + 1) 0 ≡ 0
    begun_kept = get_or-set_same (set st (2 * d) n) (2 * d + 1) 0 0 (omega (arith, length-set st (2 * d) n))

    pub begun_work : work (begun st d n) (suc d) ≡ cost (query_at code n) 0 + work st d
    unfolding work
    begun_work = rw (begun_node, begun_kept) (ap (λ (x : ℕ). cost (query_at code n) 0 + x) (work_set (set st (2 * d) n) d (2 * d + 1) 0 (omega arith) ∙ work_set st d (2 * d) n (omega arith)))

    pub begun_stack : {nodes m : ℕ} {fs : List Frame} (y : Records.Var) → d + n < nodes → Stack nodes st m d fs → Stack nodes (begun st d n) m (suc d) (record { node = n; kept = 0; var = y } ∷ fs)
    begun_stack {m = m} {fs = fs} y l k =
        over (record { node = begun_node; keeps = begun_kept; low = l; few = kept_none m (query_at code n); free = freed_none (binder (query_at code n)) (scope_of fs) }) (stack_set d (2 * d + 1) 0 (omega arith) (stack_set d (2 * d) n (omega arith) k))

  -- ANOTHER NUMBER KEPT
  module _ (st : List ℕ) (d k : ℕ) (room : 2 * d + 1 < length st) where
    pub kept_work : work (set st (2 * d + 1) k) (suc d) ≡ cost (query_at code (get_or st (2 * d) 0)) k + work st d
    unfolding work
    kept_work = rw (get_or-set_other st (2 * d + 1) (2 * d) k 0 (λ p. omega arith), get_or-set_same st (2 * d + 1) k 0 room) (ap (λ (x : ℕ). cost (query_at code (get_or st (2 * d) 0)) k + x) (work_set st d (2 * d + 1) k (omega arith)))

    pub kept_stack : {nodes m n : ℕ} {fs : List Frame} {f : Frame} (y : Records.Var) → Sound nodes st m d f fs → Stack nodes st n d fs → Kept n (query_at code f.node) k → Freed (binder (query_at code f.node)) k (scope_of fs)
        → Stack nodes (set st (2 * d + 1) k) n (suc d) (record { node = f.node; kept = k; var = y } ∷ fs)
    kept_stack {f = f} y h z e r =
        over (record { node = get_or-set_other st (2 * d + 1) (2 * d) k 0 (λ p. omega arith) ∙ h.node; keeps = get_or-set_same st (2 * d + 1) k 0 room; low = h.low; few = e; free = r }) (stack_set d (2 * d + 1) k (omega arith) z)
