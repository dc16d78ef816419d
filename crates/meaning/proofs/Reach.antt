-- The marks that `reached` leaves are exactly what is reached by steps (`Path`), whether elements are entered or not: sweeping as often as there are
-- entries is enough. So refusal 10's test and the atoms of dos are what their sentences say.
-- Assumes nothing.
use mathlib.Core.Path.{◌≡◌, refl, ap, sym, ◌∙◌, subst}
use mathlib.Core.Logic.{◌↔◌}
use mathlib.Core.Bool.{Bool, true, false, ◌&&◌}
use mathlib.Core.List.{List, [], ◌∷◌}
use mathlib.Core.Option.{Option, none, some}
use Prim.Native.Nat.{ℕ, zero, suc, ◌+◌, ◌≤◌, ◌<◌}
use native.Mathlib.Omega.{arith}
use native.Mathlib.Decide.{ℕ_discrete}
use borrow.Author.Tests.{eq-eqb, eqb-true}
use lib.ListN.{length, get_or, set, replicate, length-set, length-replicate}
use Rattle.meaning.specs.Base.{At, In, first, later, is_some, lowest, kept_from}
use Rattle.meaning.specs.Forests.{Head, passes}
use Rattle.meaning.specs.Types as Types
use Rattle.meaning.specs.Types.{Entry, Table, Defs, at, head_of, name_of}
use Rattle.meaning.specs.Reach.{steps_of, Path, here, step, mark, sweep, sweeps, reached, names, reaches_name, loops, atom_passes, atoms_below}
use Rattle.meaning.proofs.Lists.{never, both_true, at_low, at_get_or, at_is}
use Rattle.meaning.proofs.Searches.{lowest_some, some_lowest, kept_exact, Increasing, kept_increasing}

abbrev pub Marked : List Bool → ℕ → Type 0
Marked m e = get_or m e false ≡ true

-- what is marked in m is marked in n, and they are of one length
data Sub : List Bool → List Bool → Type 0 where
  sub_nil : Sub [] []
  sub_same : {a : Bool} {m n : List Bool} → Sub m n → Sub (a ∷ m) (a ∷ n)
  sub_new : {m n : List Bool} → Sub m n → Sub (false ∷ m) (true ∷ n)

sub_refl : (m : List Bool) → Sub m m
sub_refl [] = sub_nil
sub_refl (a ∷ m) = sub_same (sub_refl m)

sub_trans : {l m n : List Bool} → Sub l m → Sub m n → Sub l n
sub_trans sub_nil h = h
sub_trans (sub_same g) (sub_same h) = sub_same (sub_trans g h)
sub_trans (sub_same g) (sub_new h) = sub_new (sub_trans g h)
sub_trans (sub_new g) (sub_same h) = sub_new (sub_trans g h)

sub_set : (m : List Bool) (x : ℕ) → Sub m (set m x true)
sub_set [] x = sub_nil
sub_set (true ∷ m) zero = sub_same (sub_refl m)
sub_set (false ∷ m) zero = sub_new (sub_refl m)
sub_set (a ∷ m) (suc x) = sub_same (sub_set m x)

sub_marked : {m n : List Bool} (e : ℕ) → Sub m n → Marked m e → Marked n e
sub_marked e sub_nil h = h
sub_marked zero (sub_same g) h = h
sub_marked (suc e) (sub_same g) h = sub_marked e g h
sub_marked zero (sub_new g) h = refl
sub_marked (suc e) (sub_new g) h = sub_marked e g h

sub_length : {m n : List Bool} → Sub m n → length m ≡ length n
sub_length sub_nil = refl
sub_length (sub_same g) = ap suc (sub_length g)
sub_length (sub_new g) = ap suc (sub_length g)

-- how many are marked
trues : List Bool → ℕ
trues [] = 0
trues (true ∷ m) = suc (trues m)
trues (false ∷ m) = trues m

trues_length : (m : List Bool) → trues m ≤ length m
unfolding trues
trues_length [] = omega arith
trues_length (true ∷ m) = omega (arith, trues_length m)
trues_length (false ∷ m) = omega (arith, trues_length m)

trues_marked : (m : List Bool) (x : ℕ) → Marked m x → 1 ≤ trues m
unfolding trues
trues_marked [] x h = never h
trues_marked (true ∷ m) x h = omega arith
trues_marked (false ∷ m) zero h = never h
trues_marked (false ∷ m) (suc x) h = trues_marked m x h

trues_le : {m n : List Bool} → Sub m n → trues m ≤ trues n
unfolding trues
trues_le sub_nil = omega arith
trues_le (sub_same {a = true} g) = omega (arith, trues_le g)
trues_le (sub_same {a = false} g) = trues_le g
trues_le (sub_new g) = omega (arith, trues_le g)

-- marks that come to be either stay the same or are more
data Rise (m n : List Bool) : Type 0 where
  rest : n ≡ m → Rise m n
  rise : trues m < trues n → Rise m n

rise_cons : (b : Bool) {m n : List Bool} → Rise m n → Rise (b ∷ m) (b ∷ n)
unfolding trues
rise_cons b (rest p) = rest (ap (b ∷◌) p)
rise_cons true (rise p) = rise (omega arith)
rise_cons false (rise p) = rise p

sub_rise : {m n : List Bool} → Sub m n → Rise m n
unfolding trues
sub_rise sub_nil = rest refl
sub_rise (sub_same {a = a} g) = rise_cons a (sub_rise g)
sub_rise (sub_new g) = rise (omega (arith, trues_le g))

set_marked : (m : List Bool) (x : ℕ) → x < length m → Marked (set m x true) x
set_marked [] x h = absurd (omega arith)
set_marked (a ∷ m) zero h = refl
set_marked (a ∷ m) (suc x) h = set_marked m x (omega arith)

-- what is marked once y is was marked before, or is y
set_old : (m : List Bool) (y x : ℕ) (P : Type 0) → Marked (set m y true) x → (Marked m x → P) → (x ≡ y → P) → P
set_old [] y x P h f g = f h
set_old (a ∷ m) zero zero P h f g = g refl
set_old (a ∷ m) zero (suc x) P h f g = f h
set_old (a ∷ m) (suc y) zero P h f g = f h
set_old (a ∷ m) (suc y) (suc x) P h f g = set_old m y x P h f (λ e. g (ap suc e))

replicate_none : {P : Type 0} (n x : ℕ) → Marked (replicate n false) x → P
replicate_none zero x h = never h
replicate_none (suc n) zero h = never h
replicate_none (suc n) (suc x) h = replicate_none n x h

sub_mark : (m : List Bool) (xs : List ℕ) → Sub m (mark m xs)
unfolding mark
sub_mark m [] = sub_refl m
sub_mark m (x ∷ xs) = sub_trans (sub_set m x) (sub_mark (set m x true) xs)

mark_marked : (m : List Bool) (xs : List ℕ) (x : ℕ) → In x xs → x < length m → Marked (mark m xs) x
unfolding mark
mark_marked m [] x h l = elim h [ ]
mark_marked m (y ∷ ys) x first l = sub_marked y (sub_mark (set m y true) ys) (set_marked m y l)
mark_marked m (y ∷ ys) x (later h) l = mark_marked (set m y true) ys x h (rw length-set l)

module _ (enter : Bool) (D : Defs) (T : Table) where
  visit : ℕ → List Bool → List Bool
  visit e m = elim (get_or m e false) [ true ↦ mark m (steps_of enter D (at T e)) | false ↦ m ]

  sub_visit : (e : ℕ) (m : List Bool) → Sub m (visit e m)
  unfolding visit
  sub_visit e m = go (get_or m e false)
    where
      go : (b : Bool) → Sub m (elim b [ true ↦ mark m (steps_of enter D (at T e)) | false ↦ m ])
      go true = sub_mark m (steps_of enter D (at T e))
      go false = sub_refl m

  sub_sweep : (k : ℕ) (m : List Bool) → Sub m (sweep k enter D T m)
  unfolding sweep visit
  sub_sweep zero m = sub_refl m
  sub_sweep (suc k) m = sub_trans (sub_visit k m) (sub_sweep k (visit k m))

  sub_sweeps : (k : ℕ) (m : List Bool) → Sub m (sweeps k enter D T m)
  unfolding sweeps
  sub_sweeps zero m = sub_refl m
  sub_sweeps (suc k) m = sub_trans (sub_sweep (length T) m) (sub_sweeps k (sweep (length T) enter D T m))

  -- a sweep marks what stands in what was marked before it
  visit_marked : (m : List Bool) (e x : ℕ) → Marked m e → In x (steps_of enter D (at T e)) → x < length m → Marked (visit e m) x
  unfolding visit
  visit_marked m e x i a l = rw (i, visit) (mark_marked m (steps_of enter D (at T e)) x a l)

  sweep_marked : (k : ℕ) (m : List Bool) (e x : ℕ) → e < k → Marked m e → In x (steps_of enter D (at T e)) → x < length m → Marked (sweep k enter D T m) x
  unfolding sweep visit
  sweep_marked zero m e x h i a l = absurd (omega arith)
  sweep_marked (suc k) m e x h i a l =
      go (ℕ_discrete e k) (λ lt. sweep_marked k (visit k m) e x lt (sub_marked e (sub_visit k m) i) a (rw (← sub_length (sub_visit k m)) l))
    where
      go : Dec (e ≡ k) → (e < k → Marked (sweep k enter D T (visit k m)) x) → Marked (sweep k enter D T (visit k m)) x
      go (yes p) r = sub_marked x (sub_sweep k (visit k m)) (visit_marked m k x (rw p at i) (rw p at a) l)
      go (no p) r = r (omega arith)

  -- marks that a sweep does not change, and marks that are closed under steps
  abbrev pub Still : List Bool → Type 0
  Still m = sweep (length T) enter D T m ≡ m

  abbrev pub Closed : List Bool → Type 0
  Closed m = (i x : ℕ) → i < length T → Marked m i → In x (steps_of enter D (at T i)) → x < length m → Marked m x

  still_closed : (m : List Bool) → Still m → Closed m
  still_closed m s e x h i a l = rw s at (sweep_marked (length T) m e x h i a l)

  pub still_sweeps : (k : ℕ) (m : List Bool) → Still m → sweeps k enter D T m ≡ m
  unfolding sweeps
  still_sweeps zero m s = refl
  still_sweeps (suc k) m s = rw s (still_sweeps k m s)

  -- k sweeps come to rest or mark k more
  data Settled (k : ℕ) (m : List Bool) : Type 0 where
    rests : Still (sweeps k enter D T m) → Settled k m
    rises : trues m + k ≤ trues (sweeps k enter D T m) → Settled k m

  settled : (k : ℕ) (m : List Bool) → Settled k m
  unfolding sweeps
  settled zero m = rises (omega arith)
  settled (suc k) m = go (sub_rise (sub_sweep (length T) m)) (settled k (sweep (length T) enter D T m))
    where
      go : Rise m (sweep (length T) enter D T m) → Settled k (sweep (length T) enter D T m) → Settled (suc k) m
      go s (rests p) = rests p
      go (rest q) (rises p) = rests (subst (λ (n : List Bool). Still n) (sym (still_sweeps (suc k) m q)) q)
      go (rise q) (rises p) = rises (omega arith)

  -- what a closed property that all marks have says of the marks after sweeping
  module _ (C : ℕ → Type 0) (closed : (i x : ℕ) → i < length T → C i → In x (steps_of enter D (at T i)) → C x) where
    mark_least : (m : List Bool) (xs : List ℕ) → ((x : ℕ) → Marked m x → C x) → ((x : ℕ) → In x xs → C x) → (x : ℕ) → Marked (mark m xs) x → C x
    unfolding mark
    mark_least m [] c d x i = c x i
    mark_least m (y ∷ ys) c d x i =
        mark_least (set m y true) ys (λ z j. set_old m y z (C z) j (c z) (λ e. rw e (d y first))) (λ z j. d z (later j)) x i

    visit_least : (m : List Bool) (e : ℕ) → e < length T → ((x : ℕ) → Marked m x → C x) → (x : ℕ) → Marked (visit e m) x → C x
    unfolding visit
    visit_least m e l c x i = go (get_or m e false) refl i
      where
        go : (b : Bool) → get_or m e false ≡ b → Marked (elim b [ true ↦ mark m (steps_of enter D (at T e)) | false ↦ m ]) x → C x
        go true p j = mark_least m (steps_of enter D (at T e)) c (λ z a. closed e z l (c e p) a) x j
        go false p j = c x j

    sweep_least : (k : ℕ) → k ≤ length T → (m : List Bool) → ((x : ℕ) → Marked m x → C x) → (x : ℕ) → Marked (sweep k enter D T m) x → C x
    unfolding sweep visit
    sweep_least zero h m c x i = c x i
    sweep_least (suc k) h m c x i = sweep_least k (omega arith) (visit k m) (visit_least m k h c) x i

    sweeps_least : (k : ℕ) (m : List Bool) → ((x : ℕ) → Marked m x → C x) → (x : ℕ) → Marked (sweeps k enter D T m) x → C x
    unfolding sweeps
    sweeps_least zero m c x i = c x i
    sweeps_least (suc k) m c x i = sweeps_least k (sweep (length T) enter D T m) (sweep_least (length T) (omega arith) m c) x i

  -- the marks that `reached` leaves are closed, and the start is marked
  module _ (e : ℕ) (fits : e < length T) where
    start : List Bool
    start = set (replicate (length T) false) e true

    start_marked : Marked start e
    unfolding start
    start_marked = set_marked (replicate (length T) false) e (rw length-replicate fits)

    start_length : length start ≡ length T
    unfolding start
    start_length = length-set (replicate (length T) false) e true ∙ length-replicate (length T) false

    pub reached_still : Still (reached enter D T e)
    unfolding start
    reached_still = go (settled (length T) start)
      where
        go : Settled (length T) start → Still (sweeps (length T) enter D T start)
        go (rests s) = s
        go (rises h) = absurd (omega (arith, trues_marked start e start_marked, trues_length (sweeps (length T) enter D T start), sub_length (sub_sweeps (length T) start), start_length))

    pub reached_length : length (reached enter D T e) ≡ length T
    unfolding start
    reached_length = sym (sub_length (sub_sweeps (length T) start)) ∙ start_length

    pub reached_self : Marked (reached enter D T e) e
    unfolding start
    reached_self = sub_marked e (sub_sweeps (length T) start) start_marked

    pub reached_closed : Closed (reached enter D T e)
    reached_closed = still_closed (reached enter D T e) reached_still

    -- and they have every closed property that the start has
    pub reached_least : (C : ℕ → Type 0) → ((i x : ℕ) → i < length T → C i → In x (steps_of enter D (at T i)) → C x) → C e → (x : ℕ) → Marked (reached enter D T e) x → C x
    unfolding start
    reached_least C closed c x i =
        sweeps_least C closed (length T) start (λ z j. set_old (replicate (length T) false) e z (C z) j (replicate_none (length T) z) (λ p. rw p c)) x i

-- MARKS AND PATHS
pub path_reached : (enter : Bool) (D : Defs) (T : Table) (e i : ℕ) → e < length T → Path enter D T e i → i < length T → Marked (reached enter D T e) i
path_reached enter D T e i l here h = reached_self enter D T e l
path_reached enter D T e i l (step {i = j} p a s) h =
    reached_closed enter D T e l j i (at_low a) (path_reached enter D T e j l p (at_low a)) (rw (at_get_or a Types.empty) s) (rw (reached_length enter D T e l) h)

pub reached_path : (enter : Bool) (D : Defs) (T : Table) (e i : ℕ) → e < length T → Marked (reached enter D T e) i → Path enter D T e i
reached_path enter D T e i l m = reached_least enter D T e l (Path enter D T e) (λ j x k p s. step p (at_is T j Types.empty k) s) here i m

-- REFUSAL 10
names_is : (d : ℕ) (x : Entry) → names d (name_of x) ≡ true → x ≡ Types.name d
unfolding name_of
names_is d Types.empty h = never h
names_is d Types.string h = never h
names_is d (Types.element l c) h = never h
names_is d (Types.pair a b) h = never h
names_is d (Types.union a b) h = never h
names_is d (Types.star a) h = never h
names_is d (Types.plus a) h = never h
names_is d (Types.opt a) h = never h
names_is d (Types.name c) h = ap Types.name (sym (eqb-true d c h))

-- an entry reaches a name of a definition without entering an element
abbrev pub ReachesName : Defs → Table → ℕ → ℕ → Type 0
ReachesName D T e d = (i : ℕ) × Path false D T e i × At T i (Types.name d)

pub reaches_exact : (D : Defs) (T : Table) (e d : ℕ) → e < length T → (reaches_name D T e d ≡ true) ↔ ReachesName D T e d
unfolding reaches_name name_of
reaches_exact D T e d l = (to, from)
  where
    test : ℕ → Bool
    test i = get_or (reached false D T e) i false && names d (name_of (at T i))

    to : is_some (lowest test (length T)) ≡ true → ReachesName D T e d
    to h =
        let r = lowest_some test (length T) h in
        let b = both_true (get_or (reached false D T e) r.0 false) (names d (name_of (at T r.0))) r.2 in
        (r.0, reached_path false D T e r.0 l b.0, subst (At T r.0) (names_is d (at T r.0) b.1) (at_is T r.0 Types.empty r.1))

    from : ReachesName D T e d → is_some (lowest test (length T)) ≡ true
    from r = some_lowest test (length T) r.0 (at_low r.2) (rw (path_reached false D T e r.0 l r.1 (at_low r.2), at_get_or r.2 Types.empty, eq-eqb d d refl))

-- refusal 10's test is exactly: the definition reaches a name of itself without entering an element
pub loops_exact : (D : Defs) (T : Table) (d : ℕ) → get_or D d 0 < length T → (loops D T d ≡ true) ↔ ((i : ℕ) × Path false D T (get_or D d 0) i × At T i (Types.name d))
loops_exact D T d l = reaches_exact D T (get_or D d 0) d l

-- DOS
atom_passes_lem : (w : ℕ) (o : Option Head) → atom_passes w o ≡ true → (h : Head) × (o ≡ some h) × (passes w h ≡ true)
atom_passes_lem w none e = never e
atom_passes_lem w (some h) e = (h, refl, e)

-- the atoms of dos: the entries reached, elements entered, that are atoms and pass the test
pub atoms_exact : (w : ℕ) (D : Defs) (T : Table) (e i : ℕ) → e < length T
    → In i (atoms_below w D T e) ↔ ((i < length T) × Path true D T e i × (h : Head) × (head_of (at T i) ≡ some h) × (passes w h ≡ true))
unfolding atoms_below
atoms_exact w D T e i l = (to, from)
  where
    test : ℕ → Bool
    test i = get_or (reached true D T e) i false && atom_passes w (head_of (at T i))

    to : In i (kept_from test 0 (length T)) → (i < length T) × Path true D T e i × (h : Head) × (head_of (at T i) ≡ some h) × (passes w h ≡ true)
    to k =
        let r = (kept_exact test 0 (length T) i).0 k in
        let b = both_true (get_or (reached true D T e) i false) (atom_passes w (head_of (at T i))) r.2 in
        let h = atom_passes_lem w (head_of (at T i)) b.1 in
        (omega arith, reached_path true D T e i l b.0, h.0, h.1, h.2)

    from : (i < length T) × Path true D T e i × (h : Head) × (head_of (at T i) ≡ some h) × (passes w h ≡ true) → In i (kept_from test 0 (length T))
    from r = (kept_exact test 0 (length T) i).1 (omega arith, omega arith, rw (path_reached true D T e i l r.1 r.0, r.3, r.4))

pub atoms_increasing : (w : ℕ) (D : Defs) (T : Table) (e : ℕ) → Increasing (atoms_below w D T e)
unfolding atoms_below
atoms_increasing w D T e = kept_increasing (λ i. get_or (reached true D T e) i false && atom_passes w (head_of (at T i))) 0 (length T)

-- and they are entries of the table
pub atoms_low : (w : ℕ) (D : Defs) (T : Table) (e i : ℕ) → In i (atoms_below w D T e) → i < length T
unfolding atoms_below
atoms_low w D T e i h = omega (arith, ((kept_exact (λ i. get_or (reached true D T e) i false && atom_passes w (head_of (at T i))) 0 (length T) i).0 h).1)
