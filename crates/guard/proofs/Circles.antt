-- A definition is in its own closed set exactly where it reaches itself without entering an element.
-- Assumes nothing.
use mathlib.Core.Path.{◌≡◌, refl, ap, sym, ◌∙◌, subst}
use mathlib.Core.Logic.{◌⊎◌, inl, inr}
use mathlib.Core.Bool.{Bool, true, false}
use mathlib.Core.List.{List, [], ◌∷◌}
use Prim.Native.Nat.{ℕ, zero, suc, ◌≤◌, ◌<◌}
use native.Mathlib.Omega.{arith}
use native.Mathlib.Decide.{dec_lt}
use lib.ListN.{length, get_or}
use Rattle.meaning.specs.Base.{At, In, first, later, lowest}
use Rattle.meaning.specs.Types as Types
use Rattle.meaning.specs.Types.{Entry, Table, Defs, at}
use Rattle.meaning.specs.Reach.{steps_of, Path, here, step, loops}
use Rattle.meaning.specs.Formed as Formed
use Rattle.meaning.proofs.Lists.{never, at_low, at_get_or, at_is, in_none}
use Rattle.meaning.proofs.Searches.{lowest_same}
use Rattle.meaning.proofs.Reach.{ReachesName, loops_exact}
use Rattle.meaning.proofs.Guard.{path_trans}
use Rattle.guard.specs.Sets as Sets
use Rattle.guard.specs.Sets.{bit, bit_at, set_of, Low, Laid, Filled, Begun, Way, Closed}
use Rattle.guard.proofs.Bits.{bit_none, bit_one, bit_only, or_cases, or_left, or_right}

-- two tests that imply each other are the same
same_test : (a b : Bool) → (a ≡ true → b ≡ true) → (b ≡ true → a ≡ true) → a ≡ b
same_test true b f g = sym (f refl)
same_test false true f g = never (g refl)
same_test false false f g = refl

-- past the end there is nothing
get_or_past : (D : Defs) (d : ℕ) → length D ≤ d → get_or D d 0 ≡ 0
get_or_past [] d h = refl
get_or_past (c ∷ D) zero h = absurd (omega arith)
get_or_past (c ∷ D) (suc d) h = get_or_past D d (omega arith)

-- why an entry's set has a definition: it is a name of it, or a part's set has it
data Has (n : ℕ) (D : Defs) (masks : List ℕ) (x : Entry) (d : ℕ) : Type 0 where
  named : x ≡ Types.name d → Has n D masks x d
  part : (y : ℕ) → y < n → In y (steps_of false D x) → bit_at masks y d ≡ true → Has n D masks x d

nothing : {A : Type 0} (d : ℕ) → bit 0 d ≡ true → A
nothing d h = never (sym (bit_none d) ∙ h)

set_has : (n : ℕ) (D : Defs) (masks : List ℕ) {x : Entry} (d : ℕ) → Low n x → bit (set_of masks x) d ≡ true → Has n D masks x d
unfolding set_of steps_of
set_has n D masks d Sets.empty h = nothing d h
set_has n D masks d Sets.string h = nothing d h
set_has n D masks d (Sets.lower (Formed.element p q r)) h = nothing d h
set_has n D masks d (Sets.lower (Formed.pair {a = a} {b = b} p q)) h = go (or_cases (get_or masks a 0) (get_or masks b 0) d h)
  where
    go : (bit_at masks a d ≡ true) ⊎ (bit_at masks b d ≡ true) → Has n D masks (Types.pair a b) d
    go (inl k) = part a p first k
    go (inr k) = part b q (later first) k
set_has n D masks d (Sets.lower (Formed.union {a = a} {b = b} p q)) h = go (or_cases (get_or masks a 0) (get_or masks b 0) d h)
  where
    go : (bit_at masks a d ≡ true) ⊎ (bit_at masks b d ≡ true) → Has n D masks (Types.union a b) d
    go (inl k) = part a p first k
    go (inr k) = part b q (later first) k
set_has n D masks d (Sets.lower (Formed.star {a = a} p)) h = part a p first h
set_has n D masks d (Sets.lower (Formed.plus {a = a} p)) h = part a p first h
set_has n D masks d (Sets.lower (Formed.opt {a = a} p)) h = part a p first h
set_has n D masks d (Sets.lower (Formed.name {d = c} p)) h = named (ap Types.name (bit_only c d h))

name_step : (D : Defs) (d : ℕ) → In (get_or D d 0) (steps_of false D (Types.name d))
unfolding steps_of
name_step D d = first

module _ (D : Defs) (T : Table) (laid : Laid T) (defined : (d : ℕ) → d < length D → get_or D d 0 < length T) (zeroth : At T 0 Types.empty)
    (masks reach₀ reach : List ℕ) (filled : Filled T masks) (begun : Begun D masks reach₀) (closed : Closed (length D) reach₀ reach) where
  -- SOUND: what an entry's set has, the entry reaches
  mask_sound : (k e d : ℕ) → e < k → e < length T → bit_at masks e d ≡ true → ReachesName D T e d
  mask_sound zero e d h l b = absurd (omega arith)
  mask_sound (suc k) e d h l b = go (set_has e D masks d (laid.low e l) (rw (filled.filled e l) at b)) (λ y g c. mask_sound k y d (omega arith) (omega arith) c)
    where
      go : Has e D masks (at T e) d → ((y : ℕ) → y < e → bit_at masks y d ≡ true → ReachesName D T y d) → ReachesName D T e d
      go (named p) r = (e, here, subst (At T e) p (at_is T e Types.empty l))
      go (part y g s c) r = let n = r y g c in (n.0, path_trans (step here (at_is T e Types.empty l) s) n.1, n.2)

  own : (d j : ℕ) → d < length D → bit_at reach₀ d j ≡ bit_at masks (get_or D d 0) j
  own d j l = ap (λ (n : ℕ). bit n j) (begun.begun d l)

  -- what a way leads to, the definition reaches
  way_sound : {i j : ℕ} → i < length D → Way (length D) reach₀ i j → ReachesName D T (get_or D i 0) j
  way_sound {i} {j} l (Sets.one b) = mask_sound (suc (get_or D i 0)) (get_or D i 0) j (omega arith) (defined i l) (sym (own i j l) ∙ b)
  way_sound {i} {j} l (Sets.on {m = m} g p q) =
      let r = way_sound l p in
      let s = way_sound g q in
      (s.0, path_trans (step r.1 r.2 (name_step D m)) s.1, s.2)

  -- COMPLETE: what the set of an entry has that a definition reaches, the definition's closed set has
  Covered : ℕ → Entry → Type 0
  Covered d x = (j : ℕ) → bit (set_of masks x) j ≡ true → bit_at reach d j ≡ true

  covered_name : (d m : ℕ) → d < length D → bit_at reach d m ≡ true → (j : ℕ) → bit_at masks (get_or D m 0) j ≡ true → Dec (m < length D) → bit_at reach d j ≡ true
  unfolding set_of
  covered_name d m k c j b (yes l) = (closed.closed d j k).1 (Sets.on l ((closed.closed d m k).0 c) (Sets.one (own m j l ∙ b)))
  covered_name d m k c j b (no l) =
      let z = get_or_past D m (omega arith) in
      nothing j (rw (z, filled.filled 0 (at_low zeroth), at_get_or zeroth Types.empty) at b)

  covered_step : (d : ℕ) (x : Entry) (y : ℕ) → d < length D → Covered d x → In y (steps_of false D x) → (j : ℕ) → bit_at masks y j ≡ true → bit_at reach d j ≡ true
  unfolding set_of steps_of Covered
  covered_step d Types.empty y k c s j b = in_none s
  covered_step d Types.string y k c s j b = in_none s
  covered_step d (Types.element l i) y k c s j b = in_none s
  covered_step d (Types.pair a i) y k c first j b = c j (or_left (get_or masks a 0) (get_or masks i 0) j b)
  covered_step d (Types.pair a i) y k c (later first) j b = c j (or_right (get_or masks a 0) (get_or masks i 0) j b)
  covered_step d (Types.pair a i) y k c (later (later s)) j b = in_none s
  covered_step d (Types.union a i) y k c first j b = c j (or_left (get_or masks a 0) (get_or masks i 0) j b)
  covered_step d (Types.union a i) y k c (later first) j b = c j (or_right (get_or masks a 0) (get_or masks i 0) j b)
  covered_step d (Types.union a i) y k c (later (later s)) j b = in_none s
  covered_step d (Types.star a) y k c first j b = c j b
  covered_step d (Types.star a) y k c (later s) j b = in_none s
  covered_step d (Types.plus a) y k c first j b = c j b
  covered_step d (Types.plus a) y k c (later s) j b = in_none s
  covered_step d (Types.opt a) y k c first j b = c j b
  covered_step d (Types.opt a) y k c (later s) j b = in_none s
  covered_step d (Types.name m) y k c first j b = covered_name d m k (c m (bit_one m)) j b (dec_lt m (length D))
  covered_step d (Types.name m) y k c (later s) j b = in_none s

  -- the set of an entry of the table
  set_at : {i : ℕ} {x : Entry} → At T i x → get_or masks i 0 ≡ set_of masks x
  set_at {i} {x} a = filled.filled i (at_low a) ∙ ap (set_of masks) (at_get_or a Types.empty)

  path_covered : (d i : ℕ) → d < length D → Path false D T (get_or D d 0) i → (j : ℕ) → bit_at masks i j ≡ true → bit_at reach d j ≡ true
  unfolding Covered
  path_covered d i k here j b = (closed.closed d j k).1 (Sets.one (own d j k ∙ b))
  path_covered d i k (step {i = e} {x = x} p a s) j b =
      covered_step d x i k (λ z h. path_covered d e k p z (ap (λ (n : ℕ). bit n z) (set_at a) ∙ h)) s j b

  circles : (d : ℕ) → d < length D → bit_at reach d d ≡ loops D T d
  unfolding set_of
  circles d k =
      let l = loops_exact D T d (defined d k) in
      same_test (bit_at reach d d) (loops D T d) (λ b. l.1 (way_sound k ((closed.closed d d k).0 b)))
      (λ h. let r = l.0 h in path_covered d r.0 k r.1 d (ap (λ (n : ℕ). bit n d) (set_at r.2) ∙ bit_one d))

  pub lowest_circles : lowest (λ d. bit_at reach d d) (length D) ≡ lowest (loops D T) (length D)
  lowest_circles = lowest_same (λ d. bit_at reach d d) (loops D T) 0 (length D) (λ d _ l. circles d (omega arith))
