-- A climb: from an entry down to what it waits for, and back with its class. The way back leads over entries of greater height, none of which has its class
-- yet. Each step lowers the height, or has one class more.
-- Assumes nothing.
use mathlib.Core.Path.{◌≡◌, refl, sym, ap, subst, ◌∙◌}
use mathlib.Core.Bool.{true, false}
use mathlib.Core.Logic.{◌≢◌, inl, inr}
use mathlib.Core.List.{List, ◌++◌}
use Prim.Native.Nat.{ℕ, ◌+◌, ◌*◌, ◌<◌, ◌≤◌}
use native.Mathlib.Omega.{arith}
use native.Mathlib.Decide.{ℕ_discrete}
use borrow.Author.Tests.{ne_eqb, eqb-true}
use lib.Dec.{eqb}
use lib.ListN.{length, get_or, set, take, drop, length-set, get_or-replicate, get_or-append}
use lib.Seq.{get_or-set_same, get_or-set_other, length-take-le}
use Rattle.meaning.specs.Base.{zeros}
use Rattle.meaning.specs.Types.{Table, Defs}
use Rattle.meaning.specs.Formed.{Formed}
use Rattle.meaning.specs.Shapes.{Class, one, maybe, more, any, shape, quant}
use Rattle.meaning.proofs.Guard.{height, height_falls, height_most, steps_low, count_below, count_lt}
use Rattle.words.proofs.Rows.{zeros_length}
use Rattle.classes.specs.Classes.{code_of, Right, Filled}
use Rattle.classes.specs.Climbs.{Sound, Down, Back, Stepped, Climbed, Begun}

-- a class has a word that is not 0
code_some : (q : Class) → code_of q ≢ 0
unfolding code_of
code_some one h = omega arith
code_some maybe h = omega arith
code_some more h = omega arith
code_some any h = omega arith

-- words whose first n are cleared
blank_front : (cs ys : List ℕ) (n : ℕ) → n ≤ length cs → ys ≡ zeros (length (take n cs)) → (i : ℕ) → i < n → get_or (ys ++ drop n cs) i 0 ≡ 0
unfolding zeros
blank_front cs ys n l q i h =
    let long : length ys ≡ n = ap length q ∙ zeros_length (length (take n cs)) ∙ length-take-le n cs l in
    get_or-append ys (drop n cs) 0 i (omega arith) ∙ rw q (get_or-replicate (length (take n cs)) i 0 0 (omega (arith, length-take-le n cs l)))

module _ (D : Defs) (T : Table) where
  abbrev H : ℕ → ℕ
  H e = height D T e

  -- THE WAY BACK from an entry to the root of the climb
  pub data Linked (cs bs : List ℕ) (root : ℕ) : ℕ → Type 0 where
    top : {e : ℕ} → e < length T → get_or cs e 0 ≡ 0 → get_or bs e 0 ≡ e → e ≡ root → Linked cs bs root e
    link : {e x : ℕ} → e < length T → get_or cs e 0 ≡ 0 → get_or bs e 0 ≡ x → H e < H x → Linked cs bs root x → Linked cs bs root e

  apart : {e x : ℕ} → H e < H x → x ≢ e
  apart l p = omega (arith, ap (height D T) p)

  -- what is lower is not on it
  way_kept : {cs bs : List ℕ} {root e : ℕ} (x y : ℕ) → H x < H e → Linked cs bs root e → Linked cs (set bs x y) root e
  way_kept {bs = bs} {e = e} x y l (top a b c d) = top a b (get_or-set_other bs x e y 0 (apart l) ∙ c) d
  way_kept {bs = bs} {e = e} x y l (link a b c d k) = link a b (get_or-set_other bs x e y 0 (apart l) ∙ c) d (way_kept x y (omega arith) k)

  classes_kept : {cs bs : List ℕ} {root e : ℕ} (x y : ℕ) → H x < H e → Linked cs bs root e → Linked (set cs x y) bs root e
  classes_kept {cs} {e = e} x y l (top a b c d) = top a (get_or-set_other cs x e y 0 (apart l) ∙ b) c d
  classes_kept {cs} {e = e} x y l (link a b c d k) = link a (get_or-set_other cs x e y 0 (apart l) ∙ b) c d (classes_kept x y (omega arith) k)

  linked_low : {cs bs : List ℕ} {root e : ℕ} → Linked cs bs root e → (e < length T) × (get_or cs e 0 ≡ 0)
  linked_low (top a b c d) = (a, b)
  linked_low (link a b c d k) = (a, b)

  -- how many classes are not known
  pub unknown : List ℕ → ℕ
  unknown cs = count_below (λ i. eqb (get_or cs i 0) 0) (length T)

  -- THE MEASURE
  pub left_over : List ℕ → ℕ → ℕ
  left_over cs e = unknown cs * 266240 + H e

  -- one class more in its place
  abbrev code : ℕ → ℕ
  code e = code_of (quant (shape D T e))

  module _ (cs : List ℕ) (e : ℕ) (inside : e < length cs) where
    known : get_or (set cs e (code e)) e 0 ≢ 0
    known h = code_some (quant (shape D T e)) (sym (get_or-set_same cs e (code e) 0 inside) ∙ h)

    kept_more : (i : ℕ) → get_or cs i 0 ≢ 0 → get_or (set cs e (code e)) i 0 ≢ 0
    kept_more i h = go (ℕ_discrete i e)
      where
        go : Dec (i ≡ e) → get_or (set cs e (code e)) i 0 ≢ 0
        go (yes p) = rw p known
        go (no p) = λ z. h (sym (get_or-set_other cs e i (code e) 0 p) ∙ z)

    sound_more : Sound D T cs → Sound D T (set cs e (code e))
    sound_more s = record { right = λ i l h. go i l h (ℕ_discrete i e) }
      where
        go : (i : ℕ) → i < length T → get_or (set cs e (code e)) i 0 ≢ 0 → Dec (i ≡ e) → Right D T (set cs e (code e)) i
        go i l h (yes p) = rw p (get_or-set_same cs e (code e) 0 inside)
        go i l h (no p) = get_or-set_other cs e i (code e) 0 p ∙ s.right i l (λ z. h (get_or-set_other cs e i (code e) 0 p ∙ z))

    fewer : e < length T → get_or cs e 0 ≡ 0 → unknown (set cs e (code e)) < unknown cs
    unfolding unknown
    fewer l z =
        count_lt (λ i. eqb (get_or (set cs e (code e)) i 0) 0) (λ i. eqb (get_or cs i 0) 0) more_before (length T) e l (ne_eqb (get_or (set cs e (code e)) e 0) 0 known) (ap (λ (n : ℕ). eqb n 0) z)
      where
        go : (i : ℕ) → Dec (get_or cs i 0 ≡ 0) → eqb (get_or (set cs e (code e)) i 0) 0 ≡ true → eqb (get_or cs i 0) 0 ≡ true
        go i (yes p) h = ap (λ (n : ℕ). eqb n 0) p
        go i (no p) h = absurd (kept_more i p (eqb-true (get_or (set cs e (code e)) i 0) 0 h))

        more_before : (i : ℕ) → eqb (get_or (set cs e (code e)) i 0) 0 ≡ true → eqb (get_or cs i 0) 0 ≡ true
        more_before i h = go i (ℕ_discrete (get_or cs i 0) 0) h

  -- WHERE A CLIMB HAS COME TO
  pub record Climbing (before was cs bs : List ℕ) (root e : ℕ) : Type 0 where
    pub long : length cs ≡ length before
    pub ways : length bs ≡ length was
    pub low : e < length T
    pub sound : Sound D T cs
    pub kept : (i : ℕ) → get_or before i 0 ≢ 0 → get_or cs i 0 ≢ 0
    pub linked : get_or cs root 0 ≡ 0 → Linked cs bs root e

  pub climbing_start : (cs bs : List ℕ) (root : ℕ) → root < length T → length T ≤ length bs → Sound D T cs → Climbing cs (set bs root root) cs (set bs root root) root root
  climbing_start cs bs root l room s =
      record { long = refl; ways = refl; low = l; sound = s; kept = λ i h. h; linked = λ z. top l z (get_or-set_same bs root root 0 (omega arith)) refl }

  module _ (F : Formed D T) {before was cs bs ds ws : List ℕ} {root e x : ℕ} (g : Climbing before was cs bs root e) (z : get_or cs root 0 ≡ 0) (room : length T ≤ length cs) (wide : length T ≤ length bs) where
    -- down
    module _ (d : Down D T cs ds bs ws e x) where
      falls : H x < H e
      falls = height_falls D T F e x g.low d.part

      x_low : x < length T
      x_low = steps_low D T F false e x g.low d.part

      down_climbing : Climbing before was ds ws root x
      down_climbing =
          rw (d.classes, d.ways)
          (record {
            long = g.long;
            ways = simp length-set g.ways;
            low = x_low;
            sound = g.sound;
            kept = g.kept;
            linked = λ _. link x_low d.lacks (get_or-set_same bs x e 0 (omega (arith, x_low))) falls (way_kept x e falls (g.linked z));
          })

      down_less : left_over ds x < left_over cs e
      unfolding left_over
      down_less = rw d.classes (omega (arith, falls))

    -- back
    module _ (b : Back D T cs ds bs ws e x) where
      inside : e < length cs
      inside = omega (arith, g.low)

      placed : ds ≡ set cs e (code e)
      placed = b.classes g.sound

      to_low : Linked cs bs root e → x < length T
      to_low (top l a q h) = omega (arith, b.to)
      to_low (link l a q h k) = omega (arith, b.to, (linked_low k).0)

      linked_on : Linked cs bs root e → get_or (set cs e (code e)) root 0 ≡ 0 → Linked (set cs e (code e)) bs root x
      linked_on (top l a q h) y = absurd (known cs e inside (ap (λ (i : ℕ). get_or (set cs e (code e)) i 0) h ∙ y))
      linked_on (link l a q h k) y = subst (Linked (set cs e (code e)) bs root) (sym (b.to ∙ q)) (classes_kept e (code e) h k)

      back_climbing : Climbing before was ds ws root x
      back_climbing =
          rw (placed, b.ways)
          (record {
            long = simp length-set g.long;
            ways = g.ways;
            low = to_low (g.linked z);
            sound = sound_more cs e inside g.sound;
            kept = λ i h. kept_more cs e inside i (g.kept i h);
            linked = linked_on (g.linked z);
          })

      back_less : left_over ds x < left_over cs e
      unfolding left_over
      back_less = rw placed (omega (arith, fewer cs e inside g.low (linked_low (g.linked z)).1, height_most D T F x (to_low (g.linked z))))

    pub climbing_on : Stepped D T cs ds bs ws e x → Climbing before was ds ws root x
    climbing_on (inl d) = down_climbing d
    climbing_on (inr b) = back_climbing b

    pub climbing_less : Stepped D T cs ds bs ws e x → left_over ds x < left_over cs e
    climbing_less (inl d) = down_less d
    climbing_less (inr b) = back_less b

  -- a class that is put in its place at once
  pub climbed_once : {cs : List ℕ} {e c : ℕ} → e < length cs → Sound D T cs → c ≡ code e → Climbed D T cs (set cs e c) e
  climbed_once {cs} {e} inside s q = rw q (record { sound = sound_more cs e inside s; kept = kept_more cs e inside; here = known cs e inside })

  -- ALL ENTRIES, from entry 0 up
  pub record Filling (before cs : List ℕ) (e : ℕ) : Type 0 where
    pub long : length cs ≡ length before
    pub low : e ≤ length T
    pub begun : Begun D T cs e

  pub filling_start : (cs ys : List ℕ) (n : ℕ) → length T ≡ n → n ≤ length cs → ys ≡ zeros (length (take n cs)) → Filling (ys ++ drop n cs) (ys ++ drop n cs) 0
  filling_start cs ys n t l q =
      record { long = refl; low = omega arith; begun = record { sound = record { right = λ e h k. absurd (k (blank_front cs ys n l q e (omega arith))) }; known = λ i h. absurd (omega arith) } }

  pub filling_on : {before cs ds : List ℕ} {e : ℕ} → Filling before cs e → e < length T → length ds ≡ length cs → Climbed D T cs ds e → Filling before ds (e + 1)
  filling_on {ds = ds} {e} f l q c = record { long = q ∙ f.long; low = omega arith; begun = record { sound = c.sound; known = λ i h. go i h (ℕ_discrete i e) } }
    where
      go : (i : ℕ) → i < e + 1 → Dec (i ≡ e) → get_or ds i 0 ≢ 0
      go i h (yes p) = rw p c.here
      go i h (no p) = c.kept i (f.begun.known i (omega arith))

  pub filling_end : {before cs : List ℕ} {e : ℕ} → Filling before cs e → length T ≤ e → Filled D T cs
  filling_end f h = record { right = λ i l. f.begun.sound.right i l (f.begun.known i (omega arith)) }
