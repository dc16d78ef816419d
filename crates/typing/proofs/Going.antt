-- The walk with its stack: what is left to do, at the node or with the answer that it has come to, is the whole.
-- Assumes nothing.
use Rattle.std.specs.Prelude as Std
use Rattle.std.specs.Prelude.{Result}
use mathlib.Core.Path.{◌≡◌, refl, sym, ap, subst, ◌∙◌}
use mathlib.Core.Logic.{◌≢◌}
use mathlib.Core.List.{List, [], ◌∷◌, ◌++◌}
use mathlib.Core.Option.{Option, none, some}
use Prim.Native.Nat.{ℕ, zero, suc, ◌+◌, ◌*◌, ◌-◌, ◌≤◌, ◌<◌}
use native.Mathlib.Omega.{arith}
use lib.ListN.{length, get_or, set}
use Rattle.meaning.specs.Base.{Out, ok, refused, type_capacity}
use Rattle.meaning.specs.Types.{Table, Defs}
use Rattle.meaning.specs.Records as Records
use Rattle.meaning.specs.Records.{Node}
use Rattle.meaning.specs.Queries.{query_at}
use Rattle.meaning.specs.Typing as Typing
use Rattle.meaning.proofs.Codes.{query_labels}
use Rattle.meaning.proofs.Nodes.{InQuery, everywhere}
use Rattle.meaning.proofs.Labels.{Labels}
use Rattle.refusals.specs.declared.Refusal.{Refusal}
use Rattle.refusals.specs.Says.{number_of}
use Rattle.words.specs.Tables.{table_of}
use Rattle.uses.specs.Counts.{Lowers}
use Rattle.scope.specs.declared.Scope.{Scope}
use Rattle.scope.specs.Shows.{Shows}
use Rattle.grow.specs.Grow.{Left, answer_of, After}
use Rattle.grow.specs.declared.Made.{Made}
use Rattle.conds.proofs.Told.{shown, shows_shown}
use Rattle.leaves.specs.Walk.{Within, Begins, walked}
use Rattle.joins.proofs.Growing.{walk_count, within_more}
use Rattle.typing.specs.declared.Next.{Next}
use Rattle.typing.specs.Walking as Walking
use Rattle.typing.specs.Walking.{onward, binder, named, inside, outside, Freed, size, cost, rose, Here, Framed, Goes, Turns, Typed}
use Rattle.typing.proofs.Onward.{size_some}
use Rattle.typing.proofs.Turning.{one_less, within_unbind}
use Rattle.typing.proofs.Stack.{Frame, named_none, outside_inside, scope_of, names_of, resume, resume_refused, work, work_some, Stack, bottom, Top, top_of, stack_shows, stack_more, begun_work, begun_stack, kept_work, kept_stack, scope_wide}

-- A WALK: the definitions, the query's nodes, the types and classes that it began with, of so many entries, the scope, the node to do, and how many words
-- its marks and its stack have
pub record Walk : Type 0 where
  pub defs : Defs
  pub code : List Node
  pub types : List ℕ
  pub classes : List ℕ
  pub count : ℕ
  pub scope : Scope
  pub start : ℕ
  pub marked : ℕ
  pub deep : ℕ

module _ (walk : Walk) where
  abbrev D : Defs
  D = walk.defs

  abbrev code : List Node
  code = walk.code

  abbrev room : ℕ
  room = type_capacity (length walk.types)

  -- what the walk is to leave, in a scope
  abbrev whole : Typing.Scope → Out (Table × ℕ)
  whole g = walked room D (query_at code walk.start) g (table_of walk.types walk.count)

  -- what is left to do with an answer, under these frames
  abbrev onwards : List Frame → Typing.Scope → Out (Table × ℕ) → Out (Table × ℕ)
  onwards fs g o = resume code walk.scope room D fs g o

  -- lent words are as long as they were
  pub record Held (us ds ms st : List ℕ) : Type 0 where
    pub long : length us ≡ length walk.types
    pub longs : length ds ≡ length walk.classes
    pub marked : length ms ≡ walk.marked
    pub deep : length st ≡ walk.deep

  -- a stack of so many frames, over a table of n entries, and the scope that it makes
  pub record Stacked (st : List ℕ) (n top : ℕ) (s : Scope) (fs : List Frame) : Type 0 where
    pub stack : Stack code walk.scope (length walk.code) st n top fs
    pub scoped : s ≡ scope_of code walk.scope fs

  -- DOWN at a node
  pub record Descends (us ds ms st : List ℕ) (s : Scope) (node n top : ℕ) : Type 0 where
    pub held : Held us ds ms st
    pub begins : Begins D us ds n s
    pub low : top + node < length walk.code
    pub frames : List Frame
    pub stacked : Stacked st n top s frames
    pub rest : (g : Typing.Scope) → Shows walk.scope g → onwards frames g (walked room D (query_at code node) (names_of code walk.scope frames g) (table_of us n)) ≡ whole g

  -- UP with what a node made; or the end, with a refusal
  pub record Ascends (us ds ms st : List ℕ) (s : Scope) (e n top : ℕ) : Type 0 where
    pub held : Held us ds ms st
    pub begins : Begins D us ds n s
    pub low : e < n
    pub frames : List Frame
    pub stacked : Stacked st n top s frames
    pub rest : (g : Typing.Scope) → Shows walk.scope g → onwards frames g (ok (table_of us n, e)) ≡ whole g

  pub record Stops (us ds ms st : List ℕ) (k place : ℕ) : Type 0 where
    pub held : Held us ds ms st
    pub rest : (g : Typing.Scope) → Shows walk.scope g → refused k place ≡ whole g

  abbrev pub Stands : List ℕ → List ℕ → List ℕ → List ℕ → Scope → Next → Type 0
  Stands us ds ms st s (Next.Down node n top) = Descends us ds ms st s node n top
  Stands us ds ms st s (Next.Up m top) = Ascends us ds ms st s m.at m.count top

  -- THE LOOP
  pub record Going (us ds ms st : List ℕ) (s : Scope) (next : Next) : Type 0 where
    pub is : Stands us ds ms st s next

  -- how much there is left to do
  abbrev pub left : List ℕ → Next → ℕ
  left st (Next.Down node n top) = 3 * size (query_at code node) + work code walk.scope st top
  left st (Next.Up m top) = work code walk.scope st top

  -- what a step makes, before which there was so much to do
  abbrev pub Outcome : List ℕ → List ℕ → List ℕ → List ℕ → Scope → ℕ → Result Next Refusal → Type 0
  Outcome us ds ms st s before (Std.Ok next) = Stands us ds ms st s next × (left st next < before)
  Outcome us ds ms st s before (Std.Err r) = Stops us ds ms st (number_of r.reason) r.place

  pub record Stepped (us ds ms st : List ℕ) (s : Scope) (r : Result Next Refusal) (before : ℕ) : Type 0 where
    pub is : Outcome us ds ms st s before r

  module _ (lowers : Lowers walk.code) (wide : length walk.scope.slots ≡ 64) where
    pub going_start : (ms st : List ℕ) → Begins D walk.types walk.classes walk.count walk.scope → walk.start < length walk.code → length ms ≡ walk.marked → length st ≡ walk.deep
        → Going walk.types walk.classes ms st walk.scope (Next.Down walk.start walk.count 0)
    unfolding resume names_of scope_of
    going_start ms st B l m q =
        record {
          is =
              record {
                held = record { long = refl; longs = refl; marked = m; deep = q };
                begins = B;
                low = omega arith;
                frames = [];
                stacked = record { stack = bottom; scoped = refl };
                rest = λ g h. refl;
              };
        }

    -- the scope that the frames make shows what they name
    shows : {st : List ℕ} {n top : ℕ} {s : Scope} {fs : List Frame} (g : Typing.Scope) → Stacked st n top s fs → Shows walk.scope g → Shows s (names_of code walk.scope fs g)
    shows {fs = fs} g k h = subst (λ (t : Scope). Shows t (names_of code walk.scope fs g)) (sym k.scoped) (stack_shows code walk.scope g wide k.stack h)

    -- UP with whatever was made, where the frames leave the whole to do
    module _ {us ds ms st : List ℕ} {s : Scope} {top n : ℕ} {fs : List Frame} (held : Held us ds ms st) (k : Stacked st n top s fs) where
      rising : {before : ℕ} → work code walk.scope st top < before → (o : Result Made Refusal) → After D us ds o → ((m : Made) → o ≡ Std.Ok m → (n ≤ m.count) × Within s m.count)
          → ((g : Typing.Scope) → Shows walk.scope g → onwards fs g (answer_of o us) ≡ whole g) → Outcome us ds ms st s before (rose o top)
      rising less (Std.Ok m) a more rest =
          let z = more m refl in
          (record { held = held; begins = record { ready = a.0; within = z.1 }; low = a.1; frames = fs; stacked = record { stack = stack_more code walk.scope z.0 k.stack; scoped = k.scoped }; rest = rest }, less)
      rising less (Std.Err r) a more rest =
          record { held = held; rest = λ g h. sym (resume_refused code walk.scope room D fs g (number_of r.reason) r.place) ∙ rest g h }

    -- A STEP DOWN
    module _ {us ds ms st : List ℕ} {s : Scope} {node n top : ℕ} (d : Descends us ds ms st s node n top) where
      pub down_here : 8192 ≤ walk.marked → Here us ds ms walk.defs walk.code n node s
      down_here m = record { begins = d.begins; marked = omega (arith, d.held.marked); lowers = lowers; low = omega (arith, d.low) }

      pub down_room : 2048 ≤ walk.deep → 2 * top + 1 < length st
      down_room l = omega (arith, d.held.deep, d.low, lowers.few)

      labels : Labels (query_at code node)
      labels = query_labels code lowers.low node (omega (arith, d.low))

      parts : InQuery (λ _. Unit {0}) (query_at code node)
      parts = everywhere (λ _. Unit {0}) (λ _. tt) (query_at code node)

      -- the node as a frame
      abbrev begins_frame : List Frame
      begins_frame = record { node = node; kept = 0; var = Records.tree 0 } ∷ d.frames

      first_scoped : s ≡ scope_of code walk.scope begins_frame
      unfolding scope_of
      first_scoped = d.stacked.scoped ∙ sym (named_none (binder (query_at code node)) (Records.tree 0) (scope_of code walk.scope d.frames)).1

      first_rest : (c : ℕ) → ((room : ℕ) (g : Typing.Scope) (t : Table) → Shows s g → walked room D (query_at code node) g t ≡ onward room D (query_at code node) 0 g (walked room D (query_at code c) g t))
          → (g : Typing.Scope) → Shows walk.scope g → onwards begins_frame g (walked room D (query_at code c) (names_of code walk.scope begins_frame g) (table_of us n)) ≡ whole g
      unfolding resume names_of
      first_rest c law g h =
          let here : Typing.Scope = names_of code walk.scope d.frames g in
          ap (λ (x : Typing.Scope). onwards d.frames g (onward room D (query_at code node) 0 here (walked room D (query_at code c) (x ++ here) (table_of us n)))) (named_none (binder (query_at code node)) (Records.tree 0) s).0
          ∙ ap (onwards d.frames g) (sym (law room here (table_of us n) (shows g d.stacked h)))
          ∙ d.rest g h

      pub down_steps : {vs es ns tt' : List ℕ} {r : Result Next Refusal} → 2048 ≤ walk.deep → length ns ≡ length ms → length tt' ≡ length st → Goes D code us vs ds es n s node st tt' top r → Stepped vs es ns tt' s r (left st (Next.Down node n top))
      down_steps {vs} {es} {ns} l p q (Walking.done w k e j) =
          let first = k.is (shown s) (shows_shown s) in
          let held : Held vs es ns st = record { long = first.long ∙ d.held.long; longs = first.longs ∙ d.held.longs; marked = p ∙ d.held.marked; deep = d.held.deep } in
          rw (j, e) (record {
            is = rising held d.stacked (omega (arith, size_some (query_at code node))) w first.ready (λ m y. let z = walk_count d.begins (query_at code node) labels parts y k in (z, within_more z d.begins.within)) (λ g h.
                ap (onwards d.frames g) (k.is (names_of code walk.scope d.frames g) (shows g d.stacked h)).answer
                ∙ ap (λ (a : ℕ). onwards d.frames g (walked (type_capacity a) D (query_at code node) (names_of code walk.scope d.frames g) (table_of us n))) d.held.long
                ∙ d.rest g h);
          })
      down_steps {ns = ns} l p q (Walking.first c z a b e j less law) =
          rw (j, a, b, e) (record {
            is = (
              record {
                held = record { long = d.held.long; longs = d.held.longs; marked = p ∙ d.held.marked; deep = sym (ap length e) ∙ q ∙ d.held.deep };
                begins = d.begins;
                low = omega (arith, d.low);
                frames = begins_frame;
                stacked = record { stack = begun_stack code walk.scope st top node (down_room l) (Records.tree 0) d.low d.stacked.stack; scoped = first_scoped };
                rest = first_rest c law;
              },
              omega (arith, begun_work code walk.scope st top node (down_room l)),
            );
          })

    -- THE END
    pub up_done : {us ds ms st : List ℕ} {s : Scope} {m : Made} → Ascends us ds ms st s m.at m.count 0 → Typed D walk.types us walk.classes ds walk.count (query_at code walk.start) walk.scope (Std.Ok m)
    unfolding resume
    up_done {us} {m = m} a = record { is = λ g h. record { answer = bottomed a.stacked.stack g (a.rest g h); long = a.held.long; longs = a.held.longs; ready = (a.begins.ready, a.low) } }
      where
        bottomed : {fs : List Frame} {st : List ℕ} → Stack code walk.scope (length walk.code) st m.count 0 fs → (g : Typing.Scope) → onwards fs g (ok (table_of us m.count, m.at)) ≡ whole g → ok (table_of us m.count, m.at) ≡ whole g
        bottomed bottom g h = h

    pub up_stops : {us ds ms st : List ℕ} {s : Scope} {before : ℕ} {r : Refusal} → Stepped us ds ms st s (Std.Err r) before → Typed D walk.types us walk.classes ds walk.count (query_at code walk.start) walk.scope (Std.Err r)
    up_stops x = record { is = λ g h. record { answer = x.is.rest g h; long = x.is.held.long; longs = x.is.held.longs; ready = tt } }

    -- A STEP UP, to the frame on top
    module _ {us ds ms st : List ℕ} {s : Scope} {e n i : ℕ} (a : Ascends us ds ms st s e n (suc i)) where
      top : Top code walk.scope (length walk.code) st n i a.frames
      top = top_of code walk.scope a.stacked.stack

      abbrev fs : List Frame
      fs = top.others

      abbrev f : Frame
      f = top.frame

      abbrev b : Option ℕ
      b = binder (query_at code f.node)

      pub up_room : 2048 ≤ walk.deep → 2 * i + 1 < length st
      up_room l = omega (arith, a.held.deep, top.sound.low, lowers.few)

      pub up_framed : 2048 ≤ walk.deep → 8192 ≤ walk.marked → Framed D us ds ms walk.code n s st i e
      up_framed d m =
          record {
            begins = a.begins;
            marked = omega (arith, a.held.marked);
            lowers = lowers;
            low = omega (arith, top.sound.low, top.sound.node);
            room = up_room d;
            there = a.low;
            kept = rw (top.sound.node, top.sound.keeps) top.sound.few;
          }

      -- the scope by the frame on top
      framed : s ≡ inside b f.kept f.var (scope_of code walk.scope fs)
      unfolding scope_of
      framed = a.stacked.scoped ∙ ap (scope_of code walk.scope) top.is

      framed_rest : (g : Typing.Scope) → Shows walk.scope g → onwards fs g (onward room D (query_at code f.node) f.kept (names_of code walk.scope fs g) (ok (table_of us n, e))) ≡ whole g
      unfolding resume
      framed_rest g h = sym (ap (λ (x : List Frame). onwards x g (ok (table_of us n, e))) top.is) ∙ a.rest g h

      left_it : outside b f.kept s ≡ scope_of code walk.scope fs
      left_it = ap (outside b f.kept) framed ∙ outside_inside (scope_of code walk.scope fs) (scope_wide code walk.scope fs ∙ wide) b f.kept f.var top.sound.free

      within_outside : (c : Option ℕ) (k : ℕ) → Within (outside c k s) n
      within_outside none k = a.begins.within
      within_outside (some v) zero = a.begins.within
      within_outside (some v) (suc k) = within_unbind v a.begins.within

      -- the node is done
      module _ {vs es ns tt' : List ℕ} {r : Result Next Refusal} {t : Scope} (p : length ns ≡ length ms) where
        done_steps : (o : Result Made Refusal) → tt' ≡ st → r ≡ rose o i → t ≡ outside b f.kept s → ((m : Made) → o ≡ Std.Ok m → n ≤ m.count)
            → ((g : Typing.Scope) → Shows (outside b f.kept s) g → Left D us vs ds es o (onward (type_capacity (length us)) D (query_at code f.node) f.kept g (ok (table_of us n, e))))
            → Stepped vs es ns tt' t r (work code walk.scope st (suc i))
        done_steps o q j z more is =
            let first = is (shown (outside b f.kept s)) (shows_shown (outside b f.kept s)) in
            let held : Held vs es ns st = record { long = first.long ∙ a.held.long; longs = first.longs ∙ a.held.longs; marked = p ∙ a.held.marked; deep = a.held.deep } in
            let k : Stacked st n i (outside b f.kept s) fs = record { stack = top.under; scoped = left_it } in
            rw (j, q, z) (record {
              is = rising held k (work_some code walk.scope st i) o first.ready (λ m y. (more m y, within_more (more m y) (within_outside b f.kept))) (λ g h.
                  ap (onwards fs g) (is (names_of code walk.scope fs g) (shows g k h)).answer
                  ∙ ap (λ (l : ℕ). onwards fs g (onward (type_capacity l) D (query_at code f.node) f.kept (names_of code walk.scope fs g) (ok (table_of us n, e)))) a.held.long
                  ∙ framed_rest g h);
            })

      -- its second part comes
      module _ (none_kept : f.kept ≡ 0) where
        same : s ≡ scope_of code walk.scope fs
        same = framed ∙ ap (λ (k : ℕ). inside b k f.var (scope_of code walk.scope fs)) none_kept ∙ (named_none b f.var (scope_of code walk.scope fs)).1

        second_rest : (c x m : ℕ) (y : Records.Var) (vs : List ℕ)
            → ((g : Typing.Scope) → Shows s g → onward (type_capacity (length us)) D (query_at code f.node) 0 g (ok (table_of us n, e)) ≡ onward (type_capacity (length us)) D (query_at code f.node) (suc x) g (walked (type_capacity (length us)) D (query_at code c) (named b (suc x) y ++ g) (table_of vs m)))
            → (g : Typing.Scope) → Shows walk.scope g
            → onwards (record { node = f.node; kept = suc x; var = y } ∷ fs) g (walked room D (query_at code c) (names_of code walk.scope (record { node = f.node; kept = suc x; var = y } ∷ fs) g) (table_of vs m)) ≡ whole g
        unfolding resume names_of
        second_rest c x m y vs law g h =
            let here : Typing.Scope = names_of code walk.scope fs g in
            let k : Stacked st n i s fs = record { stack = top.under; scoped = same } in
            ap (λ (l : ℕ). onwards fs g (onward (type_capacity l) D (query_at code f.node) (suc x) here (walked (type_capacity l) D (query_at code c) (named b (suc x) y ++ here) (table_of vs m)))) (sym a.held.long)
            ∙ ap (onwards fs g) (sym (law here (shows g k h)))
            ∙ ap (λ (l : ℕ). onwards fs g (onward (type_capacity l) D (query_at code f.node) 0 here (ok (table_of us n, e)))) a.held.long
            ∙ ap (λ (j : ℕ). onwards fs g (onward room D (query_at code f.node) j here (ok (table_of us n, e)))) (sym none_kept)
            ∙ framed_rest g h

        second_scoped : (x : ℕ) (y : Records.Var) → inside b (suc x) y s ≡ scope_of code walk.scope (record { node = f.node; kept = suc x; var = y } ∷ fs)
        unfolding scope_of
        second_scoped x y = ap (inside b (suc x) y) same

        second_less : (c x : ℕ) → 2 * i + 1 < length st → cost (query_at code f.node) (suc x) + 3 * size (query_at code c) < cost (query_at code f.node) 0
            → 3 * size (query_at code c) + work code walk.scope (set st (2 * i + 1) (suc x)) (suc i) < work code walk.scope st (suc i)
        unfolding work
        second_less c x roomy less =
            let q = kept_work code walk.scope st i (suc x) roomy in
            let z : cost (query_at code (get_or st (2 * i) 0)) (suc x) ≡ cost (query_at code f.node) (suc x) = ap (λ (j : ℕ). cost (query_at code j) (suc x)) top.sound.node in
            let y : cost (query_at code (get_or st (2 * i) 0)) (get_or st (2 * i + 1) 0) ≡ cost (query_at code f.node) 0 = ap (λ (j : ℕ). cost (query_at code j) (get_or st (2 * i + 1) 0)) top.sound.node ∙ ap (cost (query_at code f.node)) (top.sound.keeps ∙ none_kept) in
            omega (arith, q, z, y)

      turned : {vs es ns tt' : List ℕ} {r : Result Next Refusal} {t : Scope} → 2048 ≤ walk.deep → length ns ≡ length ms → length tt' ≡ length st → Turns D code us vs ds es n s f.node f.kept e st tt' i r t → Stepped vs es ns tt' t r (work code walk.scope st (suc i))
      turned d p q (Walking.done o k j v more is) = done_steps p o k j v more is
      turned {vs = vs} d p q (Walking.second c x m y z l k j v begins more long longs low freed less is) =
          rw (j, k, v) (record {
            is = (
              record {
                held = record { long = long ∙ a.held.long; longs = longs ∙ a.held.longs; marked = p ∙ a.held.marked; deep = sym (ap length k) ∙ q ∙ a.held.deep };
                begins = begins;
                low = omega (arith, top.sound.low);
                frames = record { node = f.node; kept = suc x; var = y } ∷ fs;
                stacked = record { stack = kept_stack code walk.scope st i (suc x) (up_room d) y top.sound (stack_more code walk.scope more top.under) low (subst (Freed b (suc x)) (same z) freed); scoped = second_scoped z x y };
                rest = second_rest z c x m y vs is;
              },
              second_less z c x (up_room d) less,
            );
          })

      pub up_steps : {vs es ns tt' : List ℕ} {r : Result Next Refusal} {t : Scope} → 2048 ≤ walk.deep → length ns ≡ length ms → length tt' ≡ length st → Turns D code us vs ds es n s (get_or st (2 * i) 0) (get_or st (2 * i + 1) 0) e st tt' i r t → Stepped vs es ns tt' t r (work code walk.scope st (suc i))
      up_steps {vs} {es} {ns} {tt'} {r} {t} d p q h = turned d p q (subst (λ (k : ℕ). Turns D code us vs ds es n s f.node k e st tt' i r t) top.sound.keeps (subst (λ (j : ℕ). Turns D code us vs ds es n s j (get_or st (2 * i + 1) 0) e st tt' i r t) top.sound.node h))

  -- WHERE IT STANDS, as the loop tells
  module _ {us ds ms st : List ℕ} {s : Scope} {next : Next} (g : Going us ds ms st s next) where
    pub at_node : {node n top : ℕ} → next ≡ Next.Down node n top → Descends us ds ms st s node n top
    at_node p = subst (Stands us ds ms st s) p g.is

    pub at_end : {m : Made} {top : ℕ} → next ≡ Next.Up m top → top ≡ 0 → Ascends us ds ms st s m.at m.count 0
    at_end p z = subst (Ascends us ds ms st s _ _) z (subst (Stands us ds ms st s) p g.is)

    pub at_frame : {m : Made} {top : ℕ} → next ≡ Next.Up m top → top ≢ 0 → Ascends us ds ms st s m.at m.count (suc (top - 1))
    at_frame p z = subst (Ascends us ds ms st s _ _) (one_less z) (subst (Stands us ds ms st s) p g.is)

  pub stepped_going : {us ds ms st : List ℕ} {s : Scope} {next : Next} {m : ℕ} → Stepped us ds ms st s (Std.Ok next) m → Going us ds ms st s next
  stepped_going x = record { is = x.is.0 }

  pub stepped_less : {us ds ms st : List ℕ} {s : Scope} {next : Next} (st' : List ℕ) {old : Next} {node n top : ℕ} → old ≡ Next.Down node n top → Stepped us ds ms st s (Std.Ok next) (left st' (Next.Down node n top)) → left st next < left st' old
  stepped_less st' p x = rw p x.is.1

  pub framed_less : {us ds ms st : List ℕ} {s : Scope} {next : Next} (st' : List ℕ) {old : Next} {m : Made} {top : ℕ} → old ≡ Next.Up m top → top ≢ 0 → Stepped us ds ms st s (Std.Ok next) (work code walk.scope st' (suc (top - 1))) → left st next < left st' old
  framed_less st' p z x = rw (p, one_less z) x.is.1
