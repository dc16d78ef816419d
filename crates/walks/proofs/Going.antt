-- A walk over a type with its stack: what is left to do, at the entry or with the answer that it has come to, is the whole.
-- Assumes nothing.
use mathlib.Core.Path.{◌≡◌, refl, ap, sym, subst, ◌∙◌}
use mathlib.Core.Logic.{◌≢◌}
use mathlib.Core.List.{List, [], ◌∷◌}
use Prim.Native.Nat.{ℕ, zero, suc, ◌+◌, ◌*◌, ◌-◌, ◌≤◌, ◌<◌}
use native.Mathlib.Omega.{arith}
use native.Mathlib.Decide.{ℕ_discrete}
use lib.ListN.{length, get_or, set, length-set}
use Rattle.std.specs.Prelude as Std
use Rattle.std.specs.Prelude.{Result}
use Rattle.refusals.specs.declared.Refusal.{Refusal}
use Rattle.refusals.specs.Says.{number_of}
use Rattle.words.specs.declared.Entry as Words
use Rattle.meaning.specs.Base.{Out, ok, refused, type_width, type_capacity}
use Rattle.meaning.specs.Types.{Entry, Table, Defs, entry_of, at}
use Rattle.meaning.specs.Formed.{Formed}
use Rattle.meaning.specs.Shapes.{shape}
use Rattle.meaning.specs.Rules.{append}
use Rattle.words.specs.Tables.{table_of}
use Rattle.words.proofs.Tables.{table_length}
use Rattle.words.proofs.Entries.{kind_pair, kind_union, kind_star, kind_plus, kind_opt}
use Rattle.grow.specs.Grow.{Ready, Left, New, answer_of}
use Rattle.grow.specs.declared.Made.{Made}
use Rattle.grow.proofs.Entries.{new_pair, new_union, new_star, new_plus, new_opt}
use Rattle.grow.proofs.Steps.{left_ready, after_ok, after_refused, kept_table, appended, appended_grows}
use Rattle.acts.specs.Acts.{does, act_of}
use Rattle.acts.specs.declared.Mode.{Mode}
use Rattle.acts.specs.declared.Act.{Act}
use Rattle.walks.specs.Frames.{frame_of, second, Paired, Halved, Fit, begun, down_of, Pushed, then_of}
use Rattle.walks.specs.declared.Frame.{Frame}
use Rattle.walks.specs.declared.Next.{Next}
use Rattle.walks.specs.declared.Then.{Then}
use Rattle.walks.proofs.Tall.{size, tall, tall_most}
use Rattle.walks.proofs.Stack.{begun_half, begun_alone, frames, frames_set}
use Rattle.walks.proofs.Acting.{Inner, run, Says, answers, goes, halves, starts, second_inner, acting}

pub one_less : {n : ℕ} → n ≢ 0 → n ≡ suc (n - 1)
one_less h = omega arith

-- THE ENTRY that a frame appends
new_two : {n k a b : ℕ} → 4 ≤ k → k < 6 → a < n → b < n → New n k a b (entry_of k a b)
new_two {n} {k} {a} {b} l h i j = go (ℕ_discrete k 4)
  where
    go : Dec (k ≡ 4) → New n k a b (entry_of k a b)
    go (yes p) = rw (kind_pair a b p, p) (new_pair i j)
    go (no m) = let p : k ≡ 5 = omega arith in rw (kind_union a b p, p) (new_union i j)

new_one : {n k a : ℕ} → 6 ≤ k → k < 9 → a < n → New n k a 0 (entry_of k a 0)
new_one {n} {k} {a} l h i = go (ℕ_discrete k 6) (ℕ_discrete k 7)
  where
    go : Dec (k ≡ 6) → Dec (k ≡ 7) → New n k a 0 (entry_of k a 0)
    go (yes p) y = rw (kind_star a 0 p, p) (new_star i)
    go (no m) (yes p) = rw (kind_plus a 0 p, p) (new_plus i)
    go (no m) (no o) = let p : k ≡ 8 = omega arith in rw (kind_opt a 0 p, p) (new_opt i)

-- THE STACK, its top first: what is left to do with an answer, and a measure of it
module _ (mode : Mode) (room node : ℕ) (D : Defs) (T : Table) where
  unfoldable pub resume : List Frame → Out (Table × ℕ) → Out (Table × ℕ)
  resume [] o = o
  resume (f ∷ fs) o = resume fs (run mode room node D T f o)

  resume_refused : (fs : List Frame) (k place : ℕ) → resume fs (refused k place) ≡ refused k place
  unfolding resume run
  resume_refused [] k place = refl
  resume_refused (Frame.Half i e ∷ fs) k place = resume_refused fs k place
  resume_refused (Frame.Alone i ∷ fs) k place = resume_refused fs k place
  resume_refused (Frame.Joined i l ∷ fs) k place = resume_refused fs k place

module _ (D : Defs) (T : Table) where
  -- how much a frame leaves to do
  abbrev cost : Frame → ℕ
  cost (Frame.Half k e) = 4 * size (shape D T (second (at T e))) + 3
  cost (Frame.Alone k) = 1
  cost (Frame.Joined k l) = 1

  unfoldable pub work : List Frame → ℕ
  work [] = 0
  work (f ∷ fs) = cost f + work fs

  -- a frame over d others, in a table that has grown to n entries
  abbrev Sound : ℕ → ℕ → Frame → Type 0
  Sound n d (Frame.Half k e) = (4 ≤ k) × (k < 6) × (e < length T) × Paired (at T e) × (d + tall D T e < 4096)
  Sound n d (Frame.Alone k) = (6 ≤ k) × (k < 9)
  Sound n d (Frame.Joined k l) = (4 ≤ k) × (k < 6) × (l < n)

  -- d frames, each over those after it
  unfoldable pub Good : ℕ → ℕ → List Frame → Type 0
  Good n d [] = Unit {0}
  Good n zero (f ∷ fs) = ⊥
  Good n (suc d) (f ∷ fs) = Sound n d f × Good n d fs

  sound_more : {n m : ℕ} (d : ℕ) (f : Frame) → n ≤ m → Sound n d f → Sound m d f
  sound_more d (Frame.Half k e) h s = s
  sound_more d (Frame.Alone k) h s = s
  sound_more d (Frame.Joined k l) h s = (s.0, s.1, omega (arith, s.2))

  good_more : {n m : ℕ} (d : ℕ) (fs : List Frame) → n ≤ m → Good n d fs → Good m d fs
  unfolding Good
  good_more d [] h g = tt
  good_more zero (f ∷ fs) h g = absurd g
  good_more (suc d) (f ∷ fs) h g = (sound_more d f h g.0, good_more d fs h g.1)

-- A WALK: the rule, its node, the definitions, the types and classes that it began with, of so many entries, the entry to do, and how many words its stack
-- has
pub record Walk : Type 0 where
  pub mode : Mode
  pub node : ℕ
  pub defs : Defs
  pub types : List ℕ
  pub classes : List ℕ
  pub count : ℕ
  pub start : ℕ
  pub deep : ℕ

module _ (walk : Walk) where
  abbrev T : Table
  T = table_of walk.types walk.count

  abbrev room : ℕ
  room = type_capacity (length walk.types)

  abbrev pub ruled : ℕ → Table → Out (Table × ℕ)
  ruled e U = does walk.mode room walk.node (shape walk.defs T e) U

  -- what is left to do with an answer, where so many frames stand on the stack
  abbrev onwards : List ℕ → ℕ → Out (Table × ℕ) → Out (Table × ℕ)
  onwards st top o = resume walk.mode room walk.node walk.defs T (frames st top) o

  -- the table has grown to n entries, in us and ds
  pub record Held (us ds st : List ℕ) (n : ℕ) : Type 0 where
    pub ready : Ready walk.defs us ds n
    pub long : length us ≡ length walk.types
    pub longs : length ds ≡ length walk.classes
    pub more : walk.count ≤ n
    pub first : table_of us walk.count ≡ T
    pub deep : length st ≡ walk.deep

  -- DOWN at entry e
  pub record Descends (us ds st : List ℕ) (n e top : ℕ) : Type 0 where
    pub held : Held us ds st n
    pub low : e < length T
    pub short : top + tall walk.defs T e < 4096
    pub good : Good walk.defs T n top (frames st top)
    pub rest : onwards st top (ruled e (table_of us n)) ≡ ruled walk.start T

  -- UP with an entry's answer r
  pub record Ascends (us ds st : List ℕ) (n r top : ℕ) : Type 0 where
    pub held : Held us ds st n
    pub low : r < n
    pub short : top ≤ 4096
    pub good : Good walk.defs T n top (frames st top)
    pub rest : onwards st top (ok (table_of us n, r)) ≡ ruled walk.start T

  abbrev pub Stands : List ℕ → List ℕ → List ℕ → ℕ → Next → Type 0
  Stands us ds st n (Next.Down e top) = Descends us ds st n e top
  Stands us ds st n (Next.Up r top) = Ascends us ds st n r top

  -- THE LOOP
  pub record Going (us ds st : List ℕ) (n : ℕ) (next : Next) : Type 0 where
    pub is : Stands us ds st n next

  -- how much there is left to do
  abbrev pub left : List ℕ → Next → ℕ
  left st (Next.Down e top) = 4 * size (shape walk.defs T e) + 2 + work walk.defs T (frames st top)
  left st (Next.Up r top) = 1 + work walk.defs T (frames st top)

  module _ (R : Ready walk.defs walk.types walk.classes walk.count) where
    pub going_start : (st : List ℕ) → walk.start < walk.count → length st ≡ walk.deep → Going walk.types walk.classes st walk.count (Next.Down walk.start 0)
    unfolding Good frames resume
    going_start st l q =
        record {
          is =
              record {
                held = record { ready = R; long = refl; longs = refl; more = omega arith; first = refl; deep = q };
                low = rw table_length l;
                short = omega (arith, tall_most walk.defs T R.formed walk.start (rw table_length l), R.formed.few);
                good = tt;
                rest = refl;
              };
        }

    module _ {us ds st : List ℕ} {n : ℕ} (h : Held us ds st n) where
      pub held_inside : type_width * walk.count ≤ length us
      held_inside = omega (arith, h.ready.lent.fits, h.more)

      -- another word on the stack
      set_held : (i w : ℕ) → Held us ds (set st i w) n
      set_held i w = record { ready = h.ready; long = h.long; longs = h.longs; more = h.more; first = h.first; deep = length-set st i w ∙ h.deep }

    -- A STEP DOWN
    module _ {us ds st : List ℕ} {n e top : ℕ} (s : Descends us ds st n e top) where
      pub down_formed : Formed walk.defs (table_of us walk.count)
      down_formed = rw s.held.first R.formed

      pub down_low : e < length (table_of us walk.count)
      down_low = rw s.held.first s.low

      module _ (enough : 4096 ≤ walk.deep) where
        pub down_room : top < length st
        down_room = omega (arith, s.short, s.held.deep)

        abbrev Steps : Act → Type 0
        Steps a = (us' : List ℕ) → Pushed a e top st us' → Stands us ds us' n (down_of a top) × (left us' (down_of a top) < left st (Next.Down e top))

        -- with a word of the frame f, for part a
        pushing : (k a : ℕ) (f : Frame) → begun k e ≡ f → Inner walk.defs T e a → Sound walk.defs T n top f
            → 4 * size (shape walk.defs T a) + cost walk.defs T f < 4 * size (shape walk.defs T e)
            → ((U : Table) → ruled e U ≡ run walk.mode room walk.node walk.defs T f (ruled a U)) → Steps (Act.First k a)
        unfolding Good frames resume work
        pushing k a f q i sound less is vs (w, set_is, word_is) =
            let p : frames vs (suc top) ≡ f ∷ frames st top
            = ap (λ us. frames us (suc top)) set_is ∙ frames_set st top w down_room ∙ ap (λ g. g ∷ frames st top) (word_is ∙ q) in (
              record {
                held = rw set_is (set_held s.held top w);
                low = i.low;
                short = omega (arith, i.tall, s.short);
                good = subst (Good walk.defs T n (suc top)) (sym p) (sound, s.good);
                rest = ap (λ fs. resume walk.mode room walk.node walk.defs T fs (ruled a (table_of us n))) p ∙ ap (onwards st top) (sym (is (table_of us n))) ∙ s.rest;
              },
              omega (arith, ap (work walk.defs T) p, less),
            )

        stepping : (a : Act) → Says walk.mode room walk.node walk.defs T e a → Steps a
        stepping (Act.Answer r) (answers l is) vs q = rw q (
          record {
            held = s.held;
            low = omega (arith, l, table_length walk.types walk.count, s.held.more);
            short = omega (arith, s.short);
            good = s.good;
            rest = ap (onwards st top) (sym (is (table_of us n))) ∙ s.rest;
          },
          omega arith,
        )
        stepping (Act.Into p) (goes i is) vs q = rw q (
          record {
            held = s.held;
            low = i.low;
            short = omega (arith, i.tall, s.short);
            good = s.good;
            rest = ap (onwards st top) (sym (is (table_of us n))) ∙ s.rest;
          },
          omega (arith, i.less),
        )
        stepping (Act.First k a) (halves l h p i z is) vs q = pushing k a (Frame.Half k e) (begun_half k e h) i (l, h, s.low, p, s.short) (omega (arith, z)) is vs q
        stepping (Act.First k a) (starts l h i is) vs q = pushing k a (Frame.Alone k) (begun_alone k e l) i (l, h) (omega (arith, i.less)) is vs q

        stepped : (st' : List ℕ) {next : Next} → next ≡ down_of (act_of walk.mode walk.defs e (at (table_of us walk.count) e)) top → Pushed (act_of walk.mode walk.defs e (at (table_of us walk.count) e)) e top st st'
            → Stands us ds st' n next × (left st' next < left st (Next.Down e top))
        stepped st' p q = rw p (stepping (act_of walk.mode walk.defs e (at (table_of us walk.count) e)) (rw s.held.first (acting room walk.node R.formed e walk.mode s.low)) st' q)

        -- what `down` leaves
        pub down_going : (st' : List ℕ) {next : Next} → next ≡ down_of (act_of walk.mode walk.defs e (at (table_of us walk.count) e)) top → Pushed (act_of walk.mode walk.defs e (at (table_of us walk.count) e)) e top st st'
            → Going us ds st' n next
        down_going st' p q = record { is = (stepped st' p q).0 }

        pub down_less : (st' : List ℕ) {next old : Next} → next ≡ down_of (act_of walk.mode walk.defs e (at (table_of us walk.count) e)) top → Pushed (act_of walk.mode walk.defs e (at (table_of us walk.count) e)) e top st st'
            → old ≡ Next.Down e top → left st' next < left st old
        down_less st' p q h = rw h (stepped st' p q).1

    -- THE END
    pub up_done : {us ds st : List ℕ} {n r : ℕ} → Ascends us ds st n r 0 → Left walk.defs walk.types us walk.classes ds (Std.Ok (record { at = r; count = n })) (ruled walk.start T)
    unfolding resume frames
    up_done s = record { answer = s.rest; long = s.held.long; longs = s.held.longs; ready = (s.held.ready, s.low) }

    -- A STEP UP, with the frame on top
    module _ {us ds st : List ℕ} {n r i : ℕ} (s : Ascends us ds st n r (suc i)) where
      abbrev top_frame : Frame
      top_frame = frame_of (get_or st i 0)

      pub up_word : r < 4096
      up_word = omega (arith, s.low, s.held.ready.lent.fits)

      sound : Sound walk.defs T n i top_frame
      unfolding Good frames
      sound = s.good.0

      under : Good walk.defs T n i (frames st i)
      unfolding Good frames
      under = s.good.1

      halved_of : (f : Frame) → Sound walk.defs T n i f → Halved T f
      halved_of (Frame.Half k e) z = (z.2, z.3)
      halved_of (Frame.Alone k) z = tt
      halved_of (Frame.Joined k l) z = tt

      pub up_halved : Halved (table_of us walk.count) top_frame
      up_halved = rw s.held.first (halved_of top_frame sound)

      -- an entry is appended
      pub record Appends (k a b : ℕ) : Type 0 where
        pub new : New n k a b (entry_of k a b)
        pub is : onwards st i (append room walk.node (entry_of k a b) (table_of us n)) ≡ ruled walk.start T
        pub less : 1 + work walk.defs T (frames st i) < left st (Next.Up r (suc i))

      abbrev Turns : Then → Type 0
      Turns (Then.Append x) = Appends x.kind x.a x.b
      Turns (Then.Second f p) = Fit f × ((w : ℕ) → frame_of w ≡ f → Descends us ds (set st i w) n p (suc i) × (left (set st i w) (Next.Down p (suc i)) < left st (Next.Up r (suc i))))

      module _ (enough : 4096 ≤ walk.deep) where
        pub up_room : i < length st
        up_room = omega (arith, s.short, s.held.deep)

        -- a word of the frame that waits for the second part
        again : (k e : ℕ) → top_frame ≡ Frame.Half k e → Sound walk.defs T n i (Frame.Half k e) → (w : ℕ) → frame_of w ≡ Frame.Joined k r
            → Descends us ds (set st i w) n (second (at T e)) (suc i) × (left (set st i w) (Next.Down (second (at T e)) (suc i)) < left st (Next.Up r (suc i)))
        unfolding frames resume work run Good
        again k e q z w word_is =
            let x = second_inner R.formed z.2 z.3 in
            let p : frames (set st i w) (suc i) ≡ Frame.Joined k r ∷ frames st i = frames_set st i w up_room ∙ ap (λ g. g ∷ frames st i) word_is in (
              record {
                held = set_held s.held i w;
                low = x.low;
                short = omega (arith, x.tall, z.4);
                good = subst (Good walk.defs T n (suc i)) (sym p) ((z.0, z.1, s.low), under);
                rest = ap (λ fs. resume walk.mode room walk.node walk.defs T fs (ruled (second (at T e)) (table_of us n))) p
                    ∙ ap (λ g. onwards st i (run walk.mode room walk.node walk.defs T g (ok (table_of us n, r)))) (sym q) ∙ s.rest;
              },
              omega (arith, ap (work walk.defs T) p, ap (cost walk.defs T) q),
            )

        turning : (f : Frame) → top_frame ≡ f → Sound walk.defs T n i f → Turns (then_of T f r)
        unfolding frames resume work run Good
        turning (Frame.Half k e) q z = ((z.0, z.1, up_word), again k e q z)
        turning (Frame.Alone k) q z =
            record {
              new = new_one z.0 z.1 s.low;
              is = ap (λ g. onwards st i (run walk.mode room walk.node walk.defs T g (ok (table_of us n, r)))) (sym q) ∙ s.rest;
              less = omega (arith, ap (cost walk.defs T) q);
            }
        turning (Frame.Joined k l) q z =
            record {
              new = new_two z.0 z.1 z.2 s.low;
              is = ap (λ g. onwards st i (run walk.mode room walk.node walk.defs T g (ok (table_of us n, r)))) (sym q) ∙ s.rest;
              less = omega (arith, ap (cost walk.defs T) q);
            }

        turned : {t : Then} → t ≡ then_of (table_of us walk.count) top_frame r → Turns t
        turned p = rw (p, s.held.first) (turning top_frame refl sound)

        -- down into the second part
        module _ {t : Then} {f : Frame} {p : ℕ} (h : t ≡ then_of (table_of us walk.count) top_frame r) (q : t ≡ Then.Second f p) where
          pub up_fit : Fit f
          up_fit = (subst Turns q (turned h)).0

          pub up_second : (w : ℕ) {top : ℕ} → frame_of w ≡ f → top ≡ suc i → Going us ds (set st i w) n (Next.Down p top)
          up_second w word_is z = record { is = rw z ((subst Turns q (turned h)).1 w word_is).0 }

          pub up_second_less : (w : ℕ) {top : ℕ} {old : Next} → frame_of w ≡ f → top ≡ suc i → old ≡ Next.Up r top → left (set st i w) (Next.Down p top) < left st old
          up_second_less w word_is z y = rw (y, z) ((subst Turns q (turned h)).1 w word_is).1

        -- or on, with an entry that is appended
        pub up_appends : {t : Then} {x : Words.Entry} → t ≡ then_of (table_of us walk.count) top_frame r → t ≡ Then.Append x → Appends x.kind x.a x.b
        up_appends h q = subst Turns q (turned h)

      -- THE ENTRY is appended, as `grow::append` promises
      module _ {k a b : ℕ} (x : Appends k a b) {vs es : List ℕ} {o : Result Made Refusal}
          (adds : (E : Defs) (y : Entry) → New n k a b y → Ready E us ds n → Left E us vs ds es o (append (type_capacity (length us)) walk.node y (table_of us n))) where
        g : Left walk.defs us vs ds es o (append (type_capacity (length us)) walk.node (entry_of k a b) (table_of us n))
        g = adds walk.defs (entry_of k a b) x.new s.held.ready

        one : onwards st i (append (type_capacity (length us)) walk.node (entry_of k a b) (table_of us n)) ≡ ruled walk.start T
        one = rw s.held.long x.is

        pub up_full : {e : Refusal} → o ≡ Std.Err e → Left walk.defs walk.types vs walk.classes es o (ruled walk.start T)
        up_full {e} p =
            record {
              answer = ap (λ (o : Result Made Refusal). answer_of o vs) p ∙ sym (resume_refused walk.mode room walk.node walk.defs T (frames st i) (number_of e.reason) e.place) ∙ ap (onwards st i) (sym (after_refused p g)) ∙ one;
              long = g.long ∙ s.held.long;
              longs = g.longs ∙ s.held.longs;
              ready = g.ready;
            }

        pub up_less : {top : ℕ} {old : Next} → top ≡ suc i → old ≡ Next.Up r top → 1 + work walk.defs T (frames st i) < left st old
        up_less z y = rw (y, z) x.less

        more : {m : Made} → o ≡ Std.Ok m → Ascends vs es st m.count m.at i
        more {m} p =
            let y = appended n walk.node (entry_of k a b) p g in
            let z = left_ready p g in
            record {
              held =
                  record {
                    ready = z.0;
                    long = g.long ∙ s.held.long;
                    longs = g.longs ∙ s.held.longs;
                    more = omega (arith, y.count, s.held.more);
                    first = kept_table us vs n m.count (appended_grows y) walk.count s.held.more ∙ s.held.first;
                    deep = s.held.deep;
                  };
              low = z.1;
              short = omega (arith, s.short);
              good = good_more walk.defs T i (frames st i) (omega (arith, y.count)) under;
              rest = ap (onwards st i) (sym (after_ok p g)) ∙ one;
            }

        pub up_more : {m : Made} → o ≡ Std.Ok m → Going vs es st m.count (Next.Up m.at i)
        up_more p = record { is = more p }

  -- WHERE IT STANDS, as the loop tells
  module _ {us ds st : List ℕ} {n : ℕ} {next : Next} (g : Going us ds st n next) where
    pub at_entry : {e top : ℕ} → next ≡ Next.Down e top → Descends us ds st n e top
    at_entry p = subst (Stands us ds st n) p g.is

    pub at_end : {r top : ℕ} → next ≡ Next.Up r top → top ≡ 0 → Ascends us ds st n r 0
    at_end p q = subst (Ascends us ds st n _) q (subst (Stands us ds st n) p g.is)

    pub at_frame : {r top : ℕ} → next ≡ Next.Up r top → top ≢ 0 → Ascends us ds st n r (suc (top - 1))
    at_frame p q = subst (Ascends us ds st n _) (one_less q) (subst (Stands us ds st n) p g.is)
