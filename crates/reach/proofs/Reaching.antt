-- Visiting until nothing is left: what is marked is reached, and what stands in a marked entry is marked, or the entry is still to be visited. So in the end
-- what is marked is what is reached.
-- Assumes nothing.
use mathlib.Core.Path.{◌≡◌, refl, sym, ap, subst, ◌∙◌}
use mathlib.Core.Logic.{◌⊎◌, inl, inr}
use mathlib.Core.Bool.{Bool, true, false}
use mathlib.Core.List.{List, [], ◌∷◌, ◌++◌}
use Prim.Native.Nat.{ℕ, suc, ◌+◌, ◌*◌, ◌-◌, ◌≤◌, ◌<◌}
use native.Mathlib.Omega.{arith}
use native.Mathlib.Decide.{ℕ_discrete, dec_lt}
use lib.ListN.{length, get_or, take, drop, get_or-replicate, get_or-append}
use lib.Seq.{length-take-le, length_front, ext_get_or}
use Rattle.meaning.specs.Base.{In, first, later, zeros}
use Rattle.meaning.specs.Types.{Table, Defs, at}
use Rattle.meaning.specs.Reach.{steps_of, reached}
use Rattle.meaning.proofs.Reach as Reach
use Rattle.words.proofs.Rows.{zeros_length}
use Rattle.entries.specs.Says.{shown}
use Rattle.entries.specs.declared.Ty.{Ty}
use Rattle.reach.specs.Marks.{marks_of, blank, Seen, Listed, Room, Grew, Within, Given}
use Rattle.reach.proofs.Marks.{marks_length, unmarked_at, marked_at, blank_none}
use Rattle.reach.proofs.Pushing.{listed_more, grew_by}
use Rattle.reach.proofs.Steps.{given_within, given_alike}

-- THE START: the front of a table cleared
module _ (ms ys : List ℕ) (count : ℕ) (room : count ≤ length ms) (cleared : ys ≡ zeros (length (take count ms))) where
  front_length : length ys ≡ count
  front_length = ap length cleared ∙ zeros_length (length (take count ms)) ∙ length-take-le count ms room

  pub front_at : (i : ℕ) → i < count → get_or (ys ++ drop count ms) i 0 ≡ 0
  unfolding zeros
  front_at i h =
      get_or-append ys (drop count ms) 0 i (omega (arith, front_length))
      ∙ rw cleared (get_or-replicate (length (take count ms)) i 0 0 (omega (arith, length-take-le count ms room)))

  pub cleared_length : length (ys ++ drop count ms) ≡ length ms
  cleared_length = length_front ms ys count (front_length ∙ sym (length-take-le count ms room))

-- a mark or none
seen? : (ms : List ℕ) (i : ℕ) → Seen ms i ⊎ (get_or ms i 0 ≡ 0)
seen? ms i = go (ℕ_discrete (get_or ms i 0) 0)
  where
    go : Dec (get_or ms i 0 ≡ 0) → Seen ms i ⊎ (get_or ms i 0 ≡ 0)
    go (yes p) = inr p
    go (no p) = inl p

module _ (D : Defs) (T : Table) (defs : List ℕ) (count e : ℕ) where
  -- what stands in an entry, by the definitions that are lent
  abbrev steps : ℕ → List ℕ
  steps i = steps_of true defs (at T i)

  abbrev Goal : ℕ → Type 0
  Goal i = Reach.Marked (reached true D T e) i

  -- WHERE THE LOOP HAS COME TO, among so many entries, from entry e
  pub record Visiting (before ms : List ℕ) (left : ℕ) : Type 0 where
    pub long : length ms ≡ length before
    pub room : Room ms count left
    pub self : Seen ms e
    pub sound : (i : ℕ) → i < count → Seen ms i → Goal i
    pub listed : (j : ℕ) → j < left → (get_or ms (count + j) 0 < count) × Seen ms (get_or ms (count + j) 0)
    pub closed : (i : ℕ) → i < count → Seen ms i → Listed count ms left i ⊎ ((x : ℕ) → In x (steps i) → Seen ms x)

  module _ (g : Given T defs D) (size : length T ≡ count) (low : e < count) where
    within : (i : ℕ) → i < count → Within count defs (at T i)
    within i l = rw size at (given_within g i (rw size l))

    -- by the definitions in use it is the same
    alike : (i : ℕ) → i < count → steps i ≡ steps_of true D (at T i)
    alike i l = given_alike g i (rw size l)

    steps_low : (i : ℕ) → i < count → (x : ℕ) → In x (steps i) → x < count
    steps_low i l x h = (within i l).parts x h

    pub visiting_start : {before ms ns : List ℕ} {left : ℕ} → length ms ≡ length before → Room ms count 0 → ((i : ℕ) → i < count → get_or ms i 0 ≡ 0) → Grew count ms ns 0 left (e ∷ []) → Visiting before ns left
    visiting_start {ms = ms} {ns} {left} l r none w =
        record {
          long = w.long ∙ l;
          room = record { most = r.most; long = omega (arith, r.long, w.long); few = omega (arith, r.few, w.room) };
          self = w.done e first;
          sound = λ i k s. only i (w.new i k s) k;
          listed = λ j k. let a = w.added j (omega arith) k in alone (get_or ns (count + j) 0) a;
          closed = λ i k s. held i k (w.new i k s);
        }
      where
        alone : (x : ℕ) → In x (e ∷ []) → (x < count) × Seen ns x
        alone x first = (low, w.done e first)
        alone x (later h) = elim h [ ]

        only : (i : ℕ) → Seen ms i ⊎ (In i (e ∷ []) × Listed count ns left i) → i < count → Goal i
        only i (inl s) k = absurd (s (none i k))
        only i (inr p) k = start i p.0
          where
            start : (x : ℕ) → In x (e ∷ []) → Goal x
            start x first = Reach.reached_self true D T e (rw size low)
            start x (later h) = elim h [ ]

        held : (i : ℕ) → i < count → Seen ms i ⊎ (In i (e ∷ []) × Listed count ns left i) → Listed count ns left i ⊎ ((x : ℕ) → In x (steps i) → Seen ns x)
        held i k (inl s) = absurd (s (none i k))
        held i k (inr p) = inl p.1

    -- one more visited
    module _ {before ms ns : List ℕ} {next r x : ℕ} (v : Visiting before ms (suc next)) (is : x ≡ get_or ms (count + next) 0) (w : Grew count ms ns next r (steps x)) where
      pub at_low : x < count
      at_low = omega (arith, is, (v.listed next (omega arith)).0)

      at_seen : Seen ms x
      at_seen = subst (Seen ms) (sym is) (v.listed next (omega arith)).1

      closed_on : (i : ℕ) → i < count → Seen ms i → Listed count ms (suc next) i ⊎ ((y : ℕ) → In y (steps i) → Seen ms y) → Listed count ns r i ⊎ ((y : ℕ) → In y (steps i) → Seen ns y)
      closed_on i k s (inr h) = inr (λ y a. w.kept y (steps_low i k y a) (h y a))
      closed_on i k s (inl h) = go (dec_lt h.place next)
        where
          go : Dec (h.place < next) → Listed count ns r i ⊎ ((y : ℕ) → In y (steps i) → Seen ns y)
          go (yes p) = inl (listed_more {ms = ms} w.more w.same (record { place = h.place; low = p; is = h.is }))
          go (no p) =
              let z : h.place ≡ next = omega (arith, h.low) in
              let q : x ≡ i = is ∙ ap (λ (j : ℕ). get_or ms (count + j) 0) (sym z) ∙ h.is in
              inr (λ y a. w.done y (subst (λ (j : ℕ). In y (steps j)) (sym q) a))

      pub visiting_more : Visiting before ns r
      visiting_more =
          record {
            long = w.long ∙ v.long;
            room = record { most = v.room.most; long = omega (arith, v.room.long, w.long); few = omega (arith, v.room.few, w.room) };
            self = w.kept e low v.self;
            sound = λ i k s. sound_on i k (w.new i k s);
            listed = λ j k. listed_on j k (dec_lt j next);
            closed = λ i k s. closing i k (w.new i k s);
          }
        where
          sound_on : (i : ℕ) → i < count → Seen ms i ⊎ (In i (steps x) × Listed count ns r i) → Goal i
          sound_on i k (inl s) = v.sound i k s
          sound_on i k (inr p) =
              Reach.reached_closed true D T e (rw size low) x i (rw size at_low) (v.sound x at_low at_seen) (rw (alike x at_low) at p.0) (rw (Reach.reached_length true D T e (rw size low), size) k)

          listed_on : (j : ℕ) → j < r → Dec (j < next) → (get_or ns (count + j) 0 < count) × Seen ns (get_or ns (count + j) 0)
          listed_on j k (yes p) = rw (w.same j p) ((v.listed j (omega arith)).0, w.kept (get_or ms (count + j) 0) (v.listed j (omega arith)).0 (v.listed j (omega arith)).1)
          listed_on j k (no p) = let a = w.added j (omega arith) k in (steps_low x at_low (get_or ns (count + j) 0) a, w.done (get_or ns (count + j) 0) a)

          closing : (i : ℕ) → i < count → Seen ms i ⊎ (In i (steps x) × Listed count ns r i) → Listed count ns r i ⊎ ((y : ℕ) → In y (steps i) → Seen ns y)
          closing i k (inl s) = closed_on i k s (v.closed i k s)
          closing i k (inr p) = inl p.1

    -- THE END: nothing is left to visit
    module _ {before ms : List ℕ} (v : Visiting before ms 0) where
      complete : (x : ℕ) → Goal x → Seen ms x
      complete = Reach.reached_least true D T e (rw size low) (Seen ms) (λ i y l s a. shut i y (rw size at l) s a) v.self
        where
          shut : (i y : ℕ) → i < count → Seen ms i → In y (steps_of true D (at T i)) → Seen ms y
          shut i y l s a = go (v.closed i l s)
            where
              go : Listed count ms 0 i ⊎ ((x : ℕ) → In x (steps i) → Seen ms x) → Seen ms y
              go (inl h) = absurd (omega (arith, h.low))
              go (inr h) = h y (rw (alike i l) a)

      abbrev R : List Bool
      R = reached true D T e

      same_at : (i : ℕ) → i < count → get_or (marks_of count ms) i false ≡ get_or R i false
      same_at i l = go (seen? ms i)
        where
          unreached : (b : Bool) → get_or R i false ≡ b → get_or ms i 0 ≡ 0 → false ≡ get_or R i false
          unreached true q p = absurd (complete i q p)
          unreached false q p = sym q

          go : Seen ms i ⊎ (get_or ms i 0 ≡ 0) → get_or (marks_of count ms) i false ≡ get_or R i false
          go (inl s) = marked_at count ms i l s ∙ sym (v.sound i l s)
          go (inr p) = unmarked_at count ms i l p ∙ unreached (get_or R i false) refl p

      pub visiting_end : marks_of count ms ≡ reached true D T e
      visiting_end = ext_get_or false (marks_of count ms) R (marks_length count ms ∙ sym (Reach.reached_length true D T e (rw size low) ∙ size)) (λ i l. same_at i (omega (arith, marks_length count ms)))

    -- one that is to be visited
    module _ {before ms : List ℕ} {left next : ℕ} (one : left ≡ suc next) (v : Visiting before ms left) where
      here : Visiting before ms (suc next)
      here = subst (Visiting before ms) one v

      pub next_room : Room ms count next
      next_room = record { most = here.room.most; long = here.room.long; few = omega (arith, here.room.few) }

      pub next_place : count + next < length ms
      next_place = omega (arith, here.room.long, here.room.few)

      pub next_small : count + next ≤ 8192
      next_small = omega (arith, here.room.most, here.room.few)

      module _ {y : ℕ} (is : y ≡ get_or ms (count + next) 0) where
        entry_low : y < count
        entry_low = omega (arith, is, (here.listed next (omega arith)).0)

        pub next_inside : y < length T
        next_inside = rw size entry_low

        -- the entry that is visited, as it was read
        module _ (x : Ty) (read : shown x ≡ at T y) where
          pub next_within : Within count defs (shown x)
          next_within = rw read (within y entry_low)

          pub next_visited : {ns : List ℕ} {r : ℕ} → Grew count ms ns next r (steps_of true defs (shown x)) → Visiting before ns r
          next_visited w = visiting_more here is (grew_by (ap (steps_of true defs) (sym read)) w)

-- where nothing is left
pub none_left : {D : Defs} {T : Table} {defs : List ℕ} {count e left : ℕ} {before ms : List ℕ} → left ≤ 0 → Visiting D T defs count e before ms left → Visiting D T defs count e before ms 0
none_left {D} {T} {defs} {count} {e} {left} {before} {ms} z v = subst (Visiting D T defs count e before ms) {x = left} {y = 0} (omega (arith, z)) v

-- THE DEFINITIONS IN USE: whichever they are
pub record Anyhow (T : Table) (defs : List ℕ) (count e : ℕ) (before ms : List ℕ) (left : ℕ) : Type 0 where
  pub is : (D : Defs) → Given T defs D → Visiting D T defs count e before ms left

pub left_over : ℕ → List ℕ → ℕ → ℕ
left_over count ms left = 2 * blank count ms + left

pub one_left : {left : ℕ} → 0 < left → left ≡ suc (left - 1)
one_left h = omega arith

-- the measure
pub over_less : {count next r left : ℕ} {ms ns xs : List ℕ} → left ≡ suc next → Grew count ms ns next r xs → left_over count ns r < left_over count ms left
unfolding left_over
over_less e w = omega (arith, w.room, w.more)

pub start_room : {D : Defs} {T : Table} {defs : List ℕ} {count : ℕ} (ms ys : List ℕ) → Given T defs D → length T ≡ count → 2 * count ≤ length ms → ys ≡ zeros (length (take count ms)) → Room (ys ++ drop count ms) count 0
start_room {count = count} ms ys g size l c = record { most = omega (arith, g.formed.few, size); long = omega (arith, cleared_length ms ys count (omega arith) c); few = omega (arith, blank_none count (ys ++ drop count ms)) }

module _ {T : Table} {defs : List ℕ} {count e : ℕ} (size : length T ≡ count) (low : e < count) where
  pub anyhow_start : {before ms ns : List ℕ} {left : ℕ} → length ms ≡ length before → Room ms count 0 → ((i : ℕ) → i < count → get_or ms i 0 ≡ 0) → Grew count ms ns 0 left (e ∷ []) → Anyhow T defs count e before ns left
  anyhow_start l r none w = record { is = λ D g. visiting_start D T defs count e g size low l r none w }

  -- one that is to be visited
  module _ {before ms : List ℕ} {left next : ℕ} (one : left ≡ suc next) (a : Anyhow T defs count e before ms left) where
    module _ {D : Defs} (g : Given T defs D) where
      pub anyhow_room : Room ms count next
      anyhow_room = next_room D T defs count e g size low one (a.is D g)

      pub anyhow_place : count + next < length ms
      anyhow_place = next_place D T defs count e g size low one (a.is D g)

      pub anyhow_small : count + next ≤ 8192
      anyhow_small = next_small D T defs count e g size low one (a.is D g)

      module _ {y : ℕ} (is : y ≡ get_or ms (count + next) 0) where
        pub anyhow_inside : y < length T
        anyhow_inside = next_inside D T defs count e g size low one (a.is D g) is

        -- the entry that is visited, as it was read
        pub anyhow_within : (x : Ty) → shown x ≡ at T y → Within count defs (shown x)
        anyhow_within = next_within D T defs count e g size low one (a.is D g) is

    pub anyhow_visited : {y : ℕ} → y ≡ get_or ms (count + next) 0 → (x : Ty) → shown x ≡ at T y → {ns : List ℕ} {r : ℕ} → Grew count ms ns next r (steps_of true defs (shown x)) → Anyhow T defs count e before ns r
    anyhow_visited is x read w = record { is = λ D g. next_visited D T defs count e g size low one (a.is D g) is x read w }

  -- where nothing is left
  pub anyhow_end : {before ms : List ℕ} {left : ℕ} → left ≤ 0 → Anyhow T defs count e before ms left → (D : Defs) → Given T defs D → marks_of count ms ≡ reached true D T e
  anyhow_end z a D g = visiting_end D T defs count e g size low (none_left z (a.is D g))
