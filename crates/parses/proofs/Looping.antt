-- The loop that reads the items: one step of it, by its answer, and where it begins and ends.
-- Assumes nothing.
use mathlib.Core.Path.{◌≡◌, refl, sym, ap, subst, ◌∙◌}
use mathlib.Core.Bool.{Bool, true, false}
use mathlib.Core.List.{List, [], ◌∷◌, append-nil}
use Prim.Native.Nat.{ℕ, suc, ◌+◌, ◌-◌, ◌*◌, ◌≤◌, ◌<◌}
use native.Mathlib.Omega.{arith}
use lib.ListN.{length, set, length-set}
use lib.Seq.{get_or-set_same}
use Rattle.meaning.specs.Base.{ok, refused, ◌>>=◌}
use Rattle.meaning.specs.Queries.{Query}
use Rattle.meaning.specs.Texts.{Here, here, Read, joined_by, query_at}
use Rattle.words.specs.Tables.{code_of}
use Rattle.refusals.specs.declared.Refusal.{Refusal}
use Rattle.refusals.specs.Says.{number_of}
use Rattle.std.specs.Prelude as Std
use Rattle.rows.specs.declared.Part.{Part}
use Rattle.items.specs.declared.Act.{Act}
use Rattle.items.specs.declared.Open.{Open}
use Rattle.items.specs.declared.Task.{Task}
use Rattle.items.specs.Machine as Machine
use Rattle.items.specs.Machine.{Frame, item_at, folded, cont, plug, rows_of, depth, pairs, Level, AllDeep, many, Shown, shows_tail}
use Rattle.items.specs.Says as Says
use Rattle.items.specs.Says.{Well, Stops, Made, Wants, Has, Acts, Steps}
use Rattle.items.proofs.Outs.{bind_ok, bind_same}
use Rattle.items.proofs.Frames.{well_on, stands, bounded}
use Rattle.parses.specs.Says as Loop
use Rattle.parses.specs.Says.{Tasked, task_at, Stacked, items_of, Going, list, above, more, Opened, Items}
use Rattle.parses.proofs.Stacking.{stacked_later, stacked_put, stacked_on, behind_is, list_is}

-- A REFUSAL is one behind all frames
pub plug_refused : (s : List ℕ) (fs : List Frame) {n place : ℕ} → plug s fs (refused n place) ≡ refused n place
unfolding plug
plug_refused s [] = refl
plug_refused s (f ∷ fs) = plug_refused s fs

-- ITEMS that commas may follow, and one item
query_many : (s : List ℕ) (k deep : ℕ) (h : Here) → query_at s (suc k) true deep h ≡ (item_at s k deep h >>= λ p. cont s (Machine.tail k deep []) p)
unfolding query_at cont folded
query_many s k deep h = bind_same (item_at s k deep h) (λ p. joined_by s (λ i. query_at s k true deep i) true p) (λ p. joined_by s (λ i. query_at s k true deep i) true p >>= λ q. ok q) (λ p. sym (bind_ok (joined_by s (λ i. query_at s k true deep i) true p)))

query_one : (s : List ℕ) (k deep : ℕ) (h : Here) → query_at s (suc k) false deep h ≡ item_at s k deep h
unfolding query_at joined_by
query_one s k deep h = bind_ok (item_at s k deep h)

-- HOW FAR the loop is
module _ {s : List ℕ} {o : Read Query} {at nodes tasks : ℕ} {code : List ℕ} {st : List Task} where
  pub going_inside : Going s o at nodes tasks code st → at ≤ length s
  going_inside (Loop.wanting fs k d h t z stacked w e) = w.stops.inside
  going_inside (Loop.having fs q h t stacked stops well made e) = stops.inside

  pub going_few : Going s o at nodes tasks code st → nodes ≤ 1025
  going_few (Loop.wanting fs k d h t z stacked w e) = omega (arith, w.stops.count)
  going_few (Loop.having fs q h t stacked stops well made e) = omega (arith, stops.count)

  pub going_low : Going s o at nodes tasks code st → tasks ≤ 1226
  going_low (Loop.wanting fs k d h t z stacked w e) = omega (arith, t, bounded w.well)
  going_low (Loop.having fs q h t stacked stops well made e) = omega (arith, t, bounded well)

-- ONE STEP: what is left of the whole is plugged into the frames under the task
pub record Stepped (s : List ℕ) (o : Read Query) (at tasks : ℕ) (st : List Task) (r : Std.Result Act Refusal) (u : List ℕ) : Type 0 where
  pub under : List Frame
  pub least : ℕ
  pub rest : Read Query
  pub count : tasks ≡ suc (length under)
  pub stacked : Stacked least st under
  pub whole : o ≡ plug s under rest
  pub acts : Acts s at least under u rest r

pub stepped : {s : List ℕ} {o : Read Query} {at nodes tasks : ℕ} {code u : List ℕ} {st : List Task} {r : Std.Result Act Refusal} → Going s o at nodes tasks code st → 0 < tasks → Steps s at (task_at st (tasks - 1)) nodes code r u → Stepped s o at tasks st r u
unfolding plug Stacked
stepped {s} {tasks = tasks} {st = st} (Loop.wanting fs k d h t z stacked w e) l steps =
    let i : tasks - 1 ≡ length fs = omega (arith, t) in
    record { under = fs; least = h.nodes; rest = item_at s k d h; count = t; stacked = stacked; whole = e; acts = steps.wants d fs k h (ap (task_at st) i ∙ z) w }
stepped (Loop.having [] q h t stacked stops well made e) l steps = absurd (omega (arith, t, l))
stepped {s} {tasks = tasks} {st = st} (Loop.having (f ∷ fs) q h t stacked stops well made e) l steps =
    let i : tasks - 1 ≡ length fs = omega (arith, t) in
    let b = behind_is f (task_at st (length fs)) stacked.0 in
    record { under = fs; least = h.nodes; rest = cont s f (q, h); count = t; stacked = stacked.1; whole = e; acts = steps.goes b.0 fs f q h (ap (task_at st) i ∙ b.1) (record { shown = b.2; stops = stops; well = well; made = made }) }

-- BY ITS ANSWER: refused
refused_is : {s : List ℕ} {at least : ℕ} {under : List Frame} {u : List ℕ} {x : Read Query} {e : Refusal} → Acts s at least under u x (Std.Err e) → x ≡ refused (number_of e.reason) e.place
refused_is (Says.refuses y) = y

pub refused_items : {s : List ℕ} {o : Read Query} {at tasks : ℕ} {st : List Task} {u : List ℕ} {e : Refusal} → Stepped s o at tasks st (Std.Err e) u → Items s u o (Std.Err e)
refused_items {s} d = Loop.refuses (d.whole ∙ ap (plug s d.under) (refused_is d.acts) ∙ plug_refused s d.under)

-- an item is made
done_is : {s : List ℕ} {o : Read Query} {at tasks least : ℕ} {st : List Task} {u : List ℕ} {under : List Frame} {x : Read Query} {p : Part} → tasks ≡ suc (length under) → Stacked least st under → o ≡ plug s under x → Acts s at least under u x (Std.Ok (Act.Done p))
    → (at ≤ p.next) × Going s o p.next p.nodes (tasks - 1) u st
done_is {s} {st = st} {under = under} t stacked whole (Says.makes q h e a b c d f) = (a, Loop.having under q h (omega (arith, t)) (stacked_later st b under stacked) c d f (whole ∙ ap (plug s under) e))

pub done_goes : {s : List ℕ} {o : Read Query} {at tasks : ℕ} {st : List Task} {u : List ℕ} {p : Part} → Stepped s o at tasks st (Std.Ok (Act.Done p)) u → (at ≤ p.next) × Going s o p.next p.nodes (tasks - 1) u st
done_goes d = done_is d.count d.stacked d.whole d.acts

-- AN ITEM IS TO BE READ above frames
want_goes : (s : List ℕ) (st : List Task) (tasks deep : ℕ) → tasks < length st → {next nodes k : ℕ} {u : List ℕ} {h : Here} {o : Read Query} (fs : List Frame) → tasks ≡ length fs → Stacked h.nodes st fs → Wants s next deep nodes u fs k h → o ≡ plug s fs (item_at s k deep h)
    → Going s o next nodes (tasks + 1) u (set st tasks (Task.Item deep))
want_goes s st tasks deep inside {k = k} {h = h} fs t stacked w whole =
    let v : List Task = set st tasks (Task.Item deep) in
    let item_is : task_at v (length fs) ≡ Task.Item deep = subst (λ (i : ℕ). task_at v i ≡ Task.Item deep) t (get_or-set_same st tasks (Task.Item deep) (Task.Item 0) inside) in
    Loop.wanting fs k deep h (omega (arith, t)) item_is (stacked_put st tasks (Task.Item deep) h.nodes fs (omega (arith, t)) stacked) w whole

-- A FRAME OPENS above the others
record Above (s : List ℕ) (tasks next nodes : ℕ) (x : Open) (deep k : ℕ) (st : List Task) (u : List ℕ) (under : List Frame) (f : Frame) (h : Here) : Type 0 where
  long : tasks + 2 ≤ length st
  count : tasks ≡ suc (length under)
  shown : Shown h.nodes f x
  stacked : Stacked h.nodes st under
  plain : Machine.flat f
  fuel : length s ≤ k + next
  stops : Stops s next nodes h
  same : deep ≡ depth (f ∷ under)
  well : Well s next (f ∷ under) h.nodes
  rows : h.nodes ≤ 1024 → code_of u h.nodes ≡ rows_of (f ∷ under)

abbrev first_of : List Task → ℕ → Open → List Task
first_of st tasks x = set st (tasks - 1) (Task.Behind x)

module _ {s : List ℕ} {tasks next nodes : ℕ} {y : Open} {deep k : ℕ} {st : List Task} {u : List ℕ} {under : List Frame} {f : Frame} {h : Here} (x : Above s tasks next nodes y deep k st u under f h) where
  first_long : length (first_of st tasks y) ≡ length st
  first_long = length-set st (tasks - 1) (Task.Behind y)

  first_stacked : Stacked h.nodes (first_of st tasks y) (f ∷ under)
  first_stacked = stacked_on st (tasks - 1) y h.nodes f under (omega (arith, x.count, x.long)) (omega (arith, x.count)) x.shown x.stacked

  -- one item is to be read behind it
  one_goes : {o : Read Query} → o ≡ plug s (f ∷ under) (item_at s k deep h) → Going s o next nodes (tasks + 1) u (set (first_of st tasks y) tasks (Task.Item deep))
  one_goes whole =
      let st1 : List Task = first_of st tasks y in
      let inside : tasks < length st1 = omega (arith, first_long, x.long) in
      want_goes s st1 tasks deep inside (f ∷ under) x.count first_stacked (record { open_are = x.same; fuel = x.fuel; stops = x.stops; well = x.well; rows = x.rows }) whole

  -- items are to be read behind it
  many_goes : {o : Read Query} → o ≡ plug s (f ∷ under) (query_at s (suc k) true deep h) → Going s o next nodes (tasks + 2) u (set (set (first_of st tasks y) tasks (Task.Behind (Open.Tail deep))) (tasks + 1) (Task.Item deep))
  unfolding plug rows_of depth pairs
  many_goes {o} whole =
      let st1 : List Task = first_of st tasks y in
      let inside : tasks < length st1 = omega (arith, first_long, x.long) in
      let st2 : List Task = set st1 tasks (Task.Behind (Open.Tail deep)) in
      let long2 : length st2 ≡ length st1 = length-set st1 tasks (Task.Behind (Open.Tail deep)) in
      let tail_stacked : Stacked h.nodes st2 (Machine.tail k deep [] ∷ f ∷ under) = stacked_on st1 tasks (Open.Tail deep) h.nodes (Machine.tail k deep []) (f ∷ under) inside (sym x.count) (shows_tail tt) first_stacked in
      let tail_well : Well s next (Machine.tail k deep [] ∷ f ∷ under) h.nodes = well_on (Machine.tail k deep []) x.well x.fuel (x.same, x.plain) x.well.low x.well.few x.well.most in
      let two : tasks + 1 + 1 ≡ tasks + 2 = omega arith in
      subst (λ (n : ℕ). Going s o next nodes n u (set st2 (tasks + 1) (Task.Item deep))) two
      (want_goes s st2 (tasks + 1) deep (omega (arith, long2, first_long, x.long)) (Machine.tail k deep [] ∷ f ∷ under) (omega (arith, x.count)) tail_stacked
      (record { open_are = x.same; fuel = x.fuel; stops = x.stops; well = tail_well; rows = λ l. x.rows l ∙ sym (append-nil (rows_of (f ∷ under))) })
      (whole ∙ ap (λ (y : Read Query). plug s (f ∷ under) y) (query_many s k deep h)))

-- either
opened_goes : {s : List ℕ} {tasks next nodes : ℕ} {y : Open} {deep k : ℕ} {st : List Task} {u : List ℕ} {under : List Frame} {f : Frame} {h : Here} {o : Read Query} (m : Bool) → Above s tasks next nodes y deep k st u under f h → o ≡ plug s (f ∷ under) (query_at s (suc k) m deep h)
    → Going s o next nodes (tasks + more m) u (above m (first_of st tasks y) tasks deep)
opened_goes true x whole = many_goes x whole
opened_goes {s} {deep = deep} {k} {under = under} {f} {h} false x whole = one_goes x (whole ∙ ap (plug s (f ∷ under)) (query_one s k deep h))

more_few : (m : Bool) → more m ≤ 2
more_few true = omega arith
more_few false = omega arith

more_is : {s : List ℕ} {o : Read Query} {at tasks least : ℕ} {st v : List Task} {u : List ℕ} {under : List Frame} {x : Read Query} {y : Open} {deep count : ℕ} {p : Part} → tasks + 2 ≤ length st → tasks ≡ suc (length under) → Stacked least st under → o ≡ plug s under x
    → Acts s at least under u x (Std.Ok (Act.More y deep p)) → Opened tasks y deep st count v → (at < p.next) × (p.next ≤ length s) × (count ≤ tasks + 2) × Going s o p.next p.nodes count u v
unfolding plug
more_is {s} {o} {at} {tasks} {st = st} {v} {u} {under} {y = y} {deep} {count} {p} long t stacked whole (Says.opens f k h e shown plain lt more-nodes fuel stops same well rows) opened =
    let listed : list y ≡ many f = list_is shown in
    let m : ℕ = more (many f) in
    let count_is : count ≡ tasks + m = opened.count ∙ ap (λ (z : Bool). tasks + more z) listed in
    let tasks_are : v ≡ above (many f) (first_of st tasks y) tasks deep = opened.tasks_are ∙ ap (λ (z : Bool). above z (first_of st tasks y) tasks deep) listed in
    let goes : Going s o p.next p.nodes (tasks + m) u (above (many f) (first_of st tasks y) tasks deep) =
    opened_goes (many f)
    (record { long = long; count = t; shown = shown; stacked = stacked_later st more-nodes under stacked; plain = plain; fuel = fuel; stops = stops; same = same; well = well; rows = rows })
    (whole ∙ ap (plug s under) e) in
    (lt, stops.inside, omega (arith, count_is, more_few (many f)), subst (λ (n : ℕ). Going s o p.next p.nodes n u v) (sym count_is) (subst (λ (w : List Task). Going s o p.next p.nodes (tasks + m) u w) (sym tasks_are) goes))

pub more_goes : {s : List ℕ} {o : Read Query} {at tasks : ℕ} {st v : List Task} {u : List ℕ} {y : Open} {deep count : ℕ} {p : Part} → Stepped s o at tasks st (Std.Ok (Act.More y deep p)) u → tasks + 2 ≤ length st → Opened tasks y deep st count v
    → (at < p.next) × (p.next ≤ length s) × (count ≤ tasks + 2) × Going s o p.next p.nodes count u v
more_goes d long opened = more_is long d.count d.stacked d.whole d.acts opened

-- THE SAME FRAME goes on, with one pair more that is not kept
kept_any : {n : ℕ} → 1024 < n → (ms : List Query) → Machine.Kept n ms
kept_any l [] = tt
kept_any l (m ∷ ms) = l

again_is : (st : List Task) {s : List ℕ} {o : Read Query} {at tasks least : ℕ} {u : List ℕ} {under : List Frame} {x : Read Query} {deep next : ℕ} → tasks + 2 ≤ length st → tasks ≡ suc (length under) → Stacked least st under → o ≡ plug s under x → Acts s at least under u x (Std.Ok (Act.Again deep next))
    → (at < next) × (next ≤ length s) × Going s o next 1025 (tasks + 1) u (set (first_of st tasks (Open.Tail deep)) tasks (Task.Item deep))
unfolding plug depth
again_is st {s} {o} {at} {tasks} {u = u} {under} {deep = deep} {next} long t stacked whole (Says.again k ms h p lt more-nodes fuel stops well) =
    let over : 1024 < h.nodes = omega (arith, stops.count) in
    let fs : List Frame = Machine.tail k deep ms ∷ under in
    let st1 : List Task = first_of st tasks (Open.Tail deep) in
    let long1 : length st1 ≡ length st = length-set st (tasks - 1) (Task.Behind (Open.Tail deep)) in
    let stacked1 : Stacked h.nodes st1 fs = stacked_on st (tasks - 1) (Open.Tail deep) h.nodes (Machine.tail k deep ms) under (omega (arith, t, long)) (omega (arith, t)) (shows_tail (kept_any over ms)) (stacked_later st more-nodes under stacked) in (
      lt,
      stops.inside,
      want_goes s st1 tasks deep (omega (arith, long1, long)) fs t stacked1 (record { open_are = (stands well).0; fuel = fuel; stops = stops; well = well; rows = λ few. absurd (omega (arith, few, over)) }) (whole ∙ ap (plug s under) p),
    )

pub again_goes : {s : List ℕ} {o : Read Query} {at tasks : ℕ} {st : List Task} {u : List ℕ} {deep next : ℕ} → Stepped s o at tasks st (Std.Ok (Act.Again deep next)) u → tasks + 2 ≤ length st
    → (at < next) × (next ≤ length s) × Going s o next 1025 (tasks + 1) u (set (set st (tasks - 1) (Task.Behind (Open.Tail deep))) tasks (Task.Item deep))
again_goes {st = st} d long = again_is st long d.count d.stacked d.whole d.acts

-- WHERE IT BEGINS
pub begins : (s code : List ℕ) (st : List Task) → 2 ≤ length st → Going s (items_of s) 0 0 2 code (set (set st 0 (Task.Behind (Open.Tail 0))) 1 (Task.Item 0))
unfolding plug Stacked AllDeep Level depth pairs rows_of code_of
begins s code st l =
    let fs : List Frame = Machine.tail (length s) 0 [] ∷ [] in
    let st1 : List Task = set st 0 (Task.Behind (Open.Tail 0)) in
    let long1 : length st1 ≡ length st = length-set st 0 (Task.Behind (Open.Tail 0)) in
    let well : Well s 0 fs 0 = record { deep = (omega arith, tt); level = ((refl, tt), tt); low = omega arith; few = omega arith; most = omega arith } in
    want_goes s st1 1 0 (omega (arith, long1, l)) fs refl (stacked_on st 0 (Open.Tail 0) 0 (Machine.tail (length s) 0 []) [] (omega (arith, l)) refl (shows_tail tt) tt)
    (record { open_are = refl; fuel = omega arith; stops = record { place = refl; inside = omega arith; count = omega arith }; well = well; rows = λ _. refl }) (query_many s (length s) 0 (here 0 0))

-- AND WHERE IT ENDS
pub ends : {s : List ℕ} {o : Read Query} {tasks : ℕ} {p : Part} {code : List ℕ} {st : List Task} → Going s o p.next p.nodes tasks code st → tasks ≤ 0 → Items s code o (Std.Ok p)
unfolding plug rows_of
ends (Loop.wanting fs k d h t z stacked w e) l = absurd (omega (arith, t, l))
ends (Loop.having [] q h t stacked stops well made e) l = Loop.makes q h e stops (λ few. (made.rows few).1)
ends (Loop.having (f ∷ fs) q h t stacked stops well made e) l = absurd (omega (arith, t, l))

-- THE LOOP, in tables of the lengths that were lent
pub record Looping (s code₀ : List ℕ) (st₀ : List Task) (p : Part) (tasks : ℕ) (code : List ℕ) (st : List Task) : Type 0 where
  pub going : Going s (items_of s) p.next p.nodes tasks code st
  pub code_long : length code ≡ length code₀
  pub stack_long : length st ≡ length st₀

module _ {s code₀ : List ℕ} {st₀ : List Task} {here : Part} {tasks : ℕ} {code : List ℕ} {st : List Task} (x : Looping s code₀ st₀ here tasks code st) (some : 0 < tasks) (room : 1280 ≤ length st₀) where
  abbrev At : Std.Result Act Refusal → List ℕ → Type 0
  At r u = Steps s here.next (task_at st (tasks - 1)) here.nodes code r u

  one_step : {u : List ℕ} {r : Std.Result Act Refusal} → At r u → Stepped s (items_of s) here.next tasks st r u
  one_step steps = stepped x.going some steps

  act_step : {u : List ℕ} {a b : Act} → a ≡ b → At (Std.Ok a) u → Stepped s (items_of s) here.next tasks st (Std.Ok b) u
  act_step {u} e steps = subst (λ (c : Act). Stepped s (items_of s) here.next tasks st (Std.Ok c) u) e (one_step steps)

  pub step_refused : {u : List ℕ} {e : Refusal} → At (Std.Err e) u → Items s u (items_of s) (Std.Err e)
  step_refused steps = refused_items (one_step steps)

  pub step_done : {u : List ℕ} {a : Act} {p : Part} → a ≡ Act.Done p → At (Std.Ok a) u → length u ≡ length code → (3 * (length s - p.next) + (tasks - 1) < 3 * (length s - here.next) + tasks) × Looping s code₀ st₀ p (tasks - 1) u st
  step_done {p = p} e steps kept =
      let d = done_goes (act_step e steps) in
      (omega (arith, d.0, some), record { going = d.1; code_long = kept ∙ x.code_long; stack_long = x.stack_long })

  pub long_stack : tasks + 2 ≤ length st
  long_stack = omega (arith, going_low x.going, room, x.stack_long)

  pub step_more : {u : List ℕ} {a : Act} {y : Open} {deep more : ℕ} {p : Part} {v : List Task} → a ≡ Act.More y deep p → At (Std.Ok a) u → Opened tasks y deep st more v → length u ≡ length code → length v ≡ length st
      → (3 * (length s - p.next) + more < 3 * (length s - here.next) + tasks) × Looping s code₀ st₀ p more u v
  step_more e steps opened kept same =
      let d = more_goes (act_step e steps) long_stack opened in
      (omega (arith, d.0, d.1, d.2), record { going = d.3; code_long = kept ∙ x.code_long; stack_long = same ∙ x.stack_long })

  pub step_again : {u : List ℕ} {a : Act} {deep next : ℕ} → a ≡ Act.Again deep next → At (Std.Ok a) u → length u ≡ length code
      → (3 * (length s - next) + (tasks + 1) < 3 * (length s - here.next) + tasks) × Looping s code₀ st₀ (record { next = next; nodes = 1025 }) (tasks + 1) u (set (set st (tasks - 1) (Task.Behind (Open.Tail deep))) tasks (Task.Item deep))
  step_again {deep = deep} e steps kept =
      let d = again_goes (act_step e steps) long_stack in
      let same : length (set (set st (tasks - 1) (Task.Behind (Open.Tail deep))) tasks (Task.Item deep)) ≡ length st = length-set (set st (tasks - 1) (Task.Behind (Open.Tail deep))) tasks (Task.Item deep) ∙ length-set st (tasks - 1) (Task.Behind (Open.Tail deep)) in
      (omega (arith, d.0, d.1), record { going = d.2; code_long = kept ∙ x.code_long; stack_long = same ∙ x.stack_long })

pub all_ends : {s code₀ : List ℕ} {st₀ : List Task} {p : Part} {tasks : ℕ} {code : List ℕ} {st : List Task} → Looping s code₀ st₀ p tasks code st → tasks ≤ 0 → Items s code (items_of s) (Std.Ok p)
all_ends x l = ends x.going l
