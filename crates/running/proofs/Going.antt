-- Where the loop has come to: the nodes that are begun, one inside another, and the spot that is to be done or was done last.
-- Assumes nothing.
use Rattle.std.specs.Prelude as Std
use mathlib.Core.Path.{◌≡◌, refl, sym, ap, subst, ◌∙◌}
use mathlib.Core.List.{List, [], ◌∷◌, ◌++◌, append_assoc}
use Prim.Native.Nat.{ℕ, ◌+◌, ◌*◌, ◌-◌, ◌≤◌, ◌<◌}
use native.Mathlib.Omega.{arith}
use lib.ListN.{length, take, drop, length-append}
use lib.Seq.{take_at, drop_at}
use Rattle.meaning.specs.Records.{Node}
use Rattle.meaning.specs.Queries.{Query, query_at}
use Rattle.meaning.specs.Queries as Queries
use Rattle.meaning.specs.Base.{refused}
use Rattle.meaning.specs.Running.{Env, eval}
use Rattle.spans.specs.declared.Spans.{Spans}
use Rattle.spans.specs.Shows.{Shows}
use Rattle.refusals.specs.declared.Refusal.{Refusal}
use Rattle.copies.proofs.Lent.{lent, back, back_length}
use Rattle.copies.proofs.Filling.{differ}
use Rattle.running.specs.declared.Frame.{Frame}
use Rattle.running.specs.declared.Next.{Next}
use Rattle.copies.specs.Fills.{Made, no_room}
use Rattle.running.specs.Evaluates.{Ready, Evaluated}
use Rattle.running.specs.Machine.{Turn, turn, sunk, up_with, Spot, spot, Given, Answers, Inner, Steps, Back, done, begun, weight, still, half}
use Rattle.running.proofs.Leaving.{left_full, full_is}
use Rattle.running.proofs.Inside.{top_of, Stops, within_placed, within_stops}
use Rattle.running.proofs.Entering.{weight_some}

-- there is always something to do
half_some : (n : Std.Option ℕ) (a : ℕ) (b : ℕ → ℕ) → 1 ≤ a → ((k : ℕ) → 1 ≤ b k) → 1 ≤ half n a b
half_some Std.None a b h i = h
half_some (Std.Some k) a b h i = i k

pub still_some : (q : Query) (f : Frame) → 1 ≤ still q f
unfolding still
still_some (Queries.nothing n) f = omega arith
still_some (Queries.text n t) f = omega arith
still_some (Queries.element n l q) f = omega arith
still_some (Queries.pair n p q) f = half_some f.first (2 + weight q) (λ k. 1) (omega arith) (λ k. omega arith)
still_some (Queries.variable n v) f = omega arith
still_some (Queries.child n v w) f = omega arith
still_some (Queries.dos n v w) f = omega arith
still_some (Queries.for n v p q) f = half_some f.first (2 + (weight q + 1) * 8192) (λ k. 1 + (weight q + 1) * (f.base + k - f.next)) (omega arith) (λ k. omega arith)
still_some (Queries.let_in n v p q) f = half_some f.first (2 + weight q) (λ k. 1) (omega arith) (λ k. omega arith)
still_some (Queries.when n c q) f = omega arith

-- WHERE A STEP LEADS: up with what was made, down at a node, or to a refusal
record Rises (m : Made) (at : ℕ) (now : Next) : Type 0 where
  pub count : ℕ
  pub made : m ≡ Std.Ok count
  pub next : now ≡ Next.Up count at

risen_done : (m : Made) (at : ℕ) {next : Next} → ◌≡◌ {A = Std.Result Next Refusal} (Std.Ok next) (up_with m at) → Rises m at next
risen_done (Std.Ok k) at p = record { count = k; made = refl; next = cc }
risen_done (Std.Err d) at p = differ (cc)

risen_stops : (m : Made) (at : ℕ) {d : Refusal} → ◌≡◌ {A = Std.Result Next Refusal} (Std.Err d) (up_with m at) → m ≡ Std.Err d
risen_stops (Std.Ok k) at p = differ (cc)
risen_stops (Std.Err e) at {d} p = let q : e ≡ d = cc in ap Std.Err q

sunk_next : {next : Next} {s u : Spans} {node at : ℕ} → turn (Std.Ok next) u ≡ sunk node at s → next ≡ Next.Down node at
sunk_next {next} {node = node} {at} r = let p : ◌≡◌ {A = Std.Result Next Refusal} (Std.Ok next) (Std.Ok (Next.Down node at)) = ap (λ (z : Turn). z.next) r in cc

-- ALL THAT STAYS: the query and its nodes, and the spot at which the evaluation began
pub record Whole : Type 0 where
  pub code : List Node
  pub root : Spot

module _ (o : Whole) where
  abbrev C : List Node
  C = o.code

  -- THE NODES THAT ARE BEGUN, by their frames, with the words before the spot inside them
  pub data Chain : List Frame → List ℕ → Spot → Type 0 where
    bottom : Chain [] [] o.root
    over : {f : Frame} {st : List Frame} {front pre : List ℕ} {x y : Spot} → Chain st front x → Given o.code x → Inner o.code f x pre y → Chain (f ∷ st) (front ++ pre) y

  -- what they leave to do
  unfoldable pub owed : List Frame → ℕ
  owed [] = 0
  owed (f ∷ st) = still (query_at C f.node) f + owed st

  -- where the evaluation stands
  pub record AtNode (st : List Frame) (s : Spans) (held words : List ℕ) (node at : ℕ) : Type 0 where
    pub front : List ℕ
    pub here : Spot
    pub chain : Chain st front here
    pub given : Given o.code here
    pub node_is : node ≡ here.node
    pub at_is : at ≡ here.at
    pub scope_is : s ≡ here.scope
    pub held_is : held ≡ here.held
    pub words_are : words ≡ front ++ here.rest

  pub record AtAnswer (st : List Frame) (s : Spans) (held words : List ℕ) (made at : ℕ) : Type 0 where
    pub front : List ℕ
    pub here : Spot
    pub us : List ℕ
    pub chain : Chain st front here
    pub given : Given o.code here
    pub at_is : at ≡ here.at
    pub answers : Answers (query_at C here.node) here (record { made = Std.Ok made; scope = s }) held us
    pub words_are : words ≡ front ++ us

  abbrev pub Stands : List Frame → Spans → List ℕ → List ℕ → Next → Type 0
  Stands st s held words (Next.Down node at) = AtNode st s held words node at
  Stands st s held words (Next.Up made at) = AtAnswer st s held words made at

  pub record Going (st : List Frame) (s : Spans) (held words : List ℕ) (next : Next) : Type 0 where
    pub stands : Stands st s held words next
    pub low : length st ≤ o.root.node
    pub long : length held ≡ length o.root.held
    pub wide : length words ≡ length o.root.rest

  -- how much there is still to do
  abbrev pub left : List Frame → Next → ℕ
  left st (Next.Down node at) = weight (query_at C node) + owed st
  left st (Next.Up made at) = owed st

  -- LAWS of the chain
  pub chain_low : {st : List Frame} {front : List ℕ} {y : Spot} → Chain st front y → length st + y.node ≤ o.root.node
  chain_low bottom = omega arith
  chain_low (over c g w) = omega (arith, chain_low c, w.low)

  chain_places : {st : List Frame} {front : List ℕ} {y : Spot} → Chain st front y → (length front + 3 * o.root.at ≡ 3 * y.at) × (length front + length y.rest ≡ length o.root.rest) × (top_of y ≡ top_of o.root)
  chain_places bottom = (omega arith, omega arith, refl)
  chain_places (over {f} {st} {front} {pre} {x} {y} c g w) =
      let h = chain_places c in
      let p = within_placed g (query_at C x.node) f pre y w.within in
      (omega (arith, length-append front pre, h.0, p.place), omega (arith, length-append front pre, h.1, p.words), p.top ∙ h.2)

  chain_stops : {st : List Frame} {front : List ℕ} {m : ℕ} {y : Spot} → Chain st front y → Stops (top_of y) (query_at C y.node) y m → Stops (top_of o.root) (query_at C o.root.node) o.root m
  chain_stops bottom s = s
  chain_stops {m = m} (over {f} {st} {front} {pre} {x} {y} c g w) s =
      let p = within_placed g (query_at C x.node) f pre y w.within in
      chain_stops c (within_stops g m (query_at C x.node) f pre y w.within (subst (λ (n : ℕ). Stops n (query_at C y.node) y m) p.top s))

  -- THE BEGINNING
  pub going_start : {st : List Frame} → st ≡ [] → Given o.code o.root → Going st o.root.scope o.root.held o.root.rest (Next.Down o.root.node o.root.at)
  going_start e g = rw e (record { stands = record { front = []; here = o.root; chain = bottom; given = g; node_is = refl; at_is = refl; scope_is = refl; held_is = refl; words_are = refl }; low = omega arith; long = refl; wide = refl })

  -- where it stands there are fewer frames than nodes
  stands_low : (st : List Frame) (s : Spans) (held words : List ℕ) (next : Next) → Stands st s held words next → length st ≤ o.root.node
  stands_low st s held words (Next.Down node at) a = omega (arith, chain_low a.chain)
  stands_low st s held words (Next.Up made at) a = omega (arith, chain_low a.chain)

  -- A STEP at a spot: where it stands then, with less to do
  module _ {st : List Frame} {front : List ℕ} {x : Spot} (c : Chain st front x) (g : Given o.code x) where
    module _ {most : ℕ} {after us : List ℕ} {st' : List Frame} {next : Next} {u : Spans} where
      pub step_stands : Steps o.code most x after us st st' (turn (Std.Ok next) u) → Stands st' u after (front ++ us) next
      step_stands (done s a e r) =
          let m = risen_done s.made x.at (ap (λ (z : Turn). z.next) r) in
          let b = subst (λ (z : Spans). Answers (query_at C x.node) x (record { made = s.made; scope = z }) after us) (sym (ap (λ (z : Turn). z.scope) r)) a in
          subst (λ (ws : List Frame). Stands ws u after (front ++ us) next) (sym e)
          (subst (Stands st u after (front ++ us)) (sym m.next)
          (record { front = front; here = x; us = us; chain = c; given = g; at_is = refl; answers = subst (λ (z : Made). Answers (query_at C x.node) x (record { made = z; scope = u }) after us) m.made b; words_are = refl }))
      step_stands (begun f pre y i l a v e r) =
          subst (λ (ws : List Frame). Stands ws u after (front ++ us) next) (sym e)
          (subst (Stands (f ∷ st) u after (front ++ us)) (sym (sunk_next r))
          (record { front = front ++ pre; here = y; chain = over c g i; given = i.given; node_is = refl; at_is = refl; scope_is = ap (λ (z : Turn). z.scope) r; held_is = a; words_are = ap (λ (ws : List ℕ). front ++ ws) v ∙ sym (append_assoc front pre y.rest) }))

      pub step_less : Steps o.code most x after us st st' (turn (Std.Ok next) u) → 1 ≤ most → left st' next < most + owed st
      unfolding owed
      step_less (done s a e r) some =
          let m = risen_done s.made x.at (ap (λ (z : Turn). z.next) r) in
          subst (λ (ws : List Frame). left ws next < most + owed st) (sym e) (subst (λ (z : Next). left st z < most + owed st) (sym m.next) (omega arith))
      step_less (begun f pre y i l a v e r) some =
          let n : still (query_at C f.node) f ≡ still (query_at C x.node) f = ap (λ (j : ℕ). still (query_at C j) f) i.node in
          subst (λ (ws : List Frame). left ws next < most + owed st) (sym e)
          (subst (λ (z : Next). left (f ∷ st) z < most + owed st) (sym (sunk_next r)) (omega (arith, n)))

    -- a refusal there is that of the whole
    step_refuses : {most : ℕ} {after us : List ℕ} {st' : List Frame} {d : Refusal} {u : Spans} → Steps o.code most x after us st st' (turn (Std.Err d) u) → (env : Env) → Shows x.held x.scope env → (d ≡ no_room d.place) × (eval (top_of x) (query_at C x.node) env x.at ≡ refused 21 d.place)
    step_refuses (done s a e r) env i = left_full (risen_stops s.made x.at (ap (λ (z : Turn). z.next) r)) (a.is.is env i)
    step_refuses (begun f pre y i l a v e r) env h = differ (let p = ap (λ (z : Turn). z.next) r in cc)

    pub step_stops : (words : List ℕ) {most : ℕ} {after us : List ℕ} {st' : List Frame} {d : Refusal} {u : Spans} → Steps o.code most x after us st st' (turn (Std.Err d) u) → Evaluated o.root.scope o.root.held (length o.root.rest) words o.root.at (Std.Err d) (query_at C o.root.node)
    step_stops words w =
        let z = chain_stops c (record { is = λ env i. (step_refuses w env i).1 }) in
        record { is = λ env i. full_is (step_refuses w g.begins.env g.begins.shows).0 (z.is env i) }

  -- BY WHERE IT STANDS
  module _ {st : List Frame} {s : Spans} {held words : List ℕ} {next : Next} (h : Going st s held words next) where
    pub at_node : {node at : ℕ} → next ≡ Next.Down node at → AtNode st s held words node at
    at_node e = subst (Stands st s held words) e h.stands

    pub at_answer : {made at : ℕ} → next ≡ Next.Up made at → AtAnswer st s held words made at
    at_answer e = subst (Stands st s held words) e h.stands

  -- words behind others
  part_of : (from : ℕ) (front ws words : List ℕ) → words ≡ front ++ ws → length front ≡ from → (take (length words - from) (drop from words) ≡ ws) × ((us : List ℕ) → take from words ++ (us ++ drop (length words - from) (drop from words)) ≡ front ++ us)
  part_of from front ws words e n =
      (lent from words ∙ ap (drop from) e ∙ drop_at front ws from n, λ us. back from words us ∙ ap (λ (l : List ℕ). l ++ us) (ap (take from) e ∙ take_at front ws from n))

  -- DOWN
  module _ {st : List Frame} {s : Spans} {held words : List ℕ} {node at : ℕ} (a : AtNode st s held words node at) where
    pub down_after : (o.root.at ≤ at) × (at ≤ 8192)
    down_after = (omega (arith, (chain_places a.chain).0, a.at_is), omega (arith, a.at_is, a.given.begins.few))

  module _ {st : List Frame} {s : Spans} {held words : List ℕ} {node at : ℕ} (a : AtNode st s held words node at) {from : ℕ} (f : from ≡ 3 * (at - o.root.at)) where
    front_length : length a.front ≡ from
    front_length = omega (arith, f, (chain_places a.chain).0, a.at_is)

    pub down_inside : from ≤ length words
    down_inside = omega (arith, front_length, ap length a.words_are ∙ length-append a.front a.here.rest)

    part_is : take (length words - from) (drop from words) ≡ a.here.rest
    part_is = (part_of from a.front a.here.rest words a.words_are front_length).0

    spot_is : spot node at s held (take (length words - from) (drop from words)) ≡ a.here
    spot_is =
        ap (λ (n : ℕ). spot n at s held (take (length words - from) (drop from words))) a.node_is
        ∙ ap (λ (n : ℕ). spot a.here.node n s held (take (length words - from) (drop from words))) a.at_is
        ∙ ap (λ (t : Spans). spot a.here.node a.here.at t held (take (length words - from) (drop from words))) a.scope_is
        ∙ ap (λ (l : List ℕ). spot a.here.node a.here.at a.here.scope l (take (length words - from) (drop from words))) a.held_is
        ∙ ap (λ (l : List ℕ). spot a.here.node a.here.at a.here.scope a.here.held l) part_is

    pub down_ready : Ready o.code s held (take (length words - from) (drop from words)) at node
    down_ready = subst (λ (z : Spot). Given o.code z) (sym spot_is) a.given

    steps_here : {us : List ℕ} {st' : List Frame} {t : Turn} → Steps o.code (weight (query_at C node)) (spot node at s held (take (length words - from) (drop from words))) held us st st' t → Steps o.code (weight (query_at C node)) a.here held us st st' t
    steps_here {us} {st'} {t} w = subst (λ (z : Spot). Steps o.code (weight (query_at C node)) z held us st st' t) spot_is w

    pub down_stops : (after : List ℕ) {us : List ℕ} {st' : List Frame} {d : Refusal} {u : Spans} → Steps o.code (weight (query_at C node)) (spot node at s held (take (length words - from) (drop from words))) held us st st' (turn (Std.Err d) u) → Evaluated o.root.scope o.root.held (length o.root.rest) after o.root.at (Std.Err d) (query_at C o.root.node)
    down_stops after w = step_stops a.chain a.given after (steps_here w)

    module _ {us : List ℕ} {st' : List Frame} {now : Next} {u : Spans} (w : Steps o.code (weight (query_at C node)) (spot node at s held (take (length words - from) (drop from words))) held us st st' (turn (Std.Ok now) u)) where
      down_stands : Stands st' u held (take from words ++ (us ++ drop (length words - from) (drop from words))) now
      down_stands = subst (λ (ws : List ℕ). Stands st' u held ws now) (sym ((part_of from a.front a.here.rest words a.words_are front_length).1 us)) (step_stands a.chain a.given (steps_here w))

      pub down_less : {next : Next} → next ≡ Next.Down node at → left st' now < left st next
      down_less e = subst (λ (z : Next). left st' now < left st z) (sym e) (step_less a.chain a.given (steps_here w) (weight_some (query_at C node)))

      pub down_goes : {next : Next} → Going st s held words next → length us ≡ length (take (length words - from) (drop from words)) → Going st' u held (take from words ++ (us ++ drop (length words - from) (drop from words))) now
      down_goes h w = record { stands = down_stands; low = stands_low _ _ _ _ now down_stands; long = h.long; wide = back_length from words us down_inside w ∙ h.wide }

  -- UP, to the last frame
  pub record Framed (f : Frame) (st : List Frame) (front : List ℕ) (y : Spot) : Type 0 where
    pub before : List ℕ
    pub pre : List ℕ
    pub outer : Spot
    pub chain : Chain st before outer
    pub given : Given o.code outer
    pub inner : Inner o.code f outer pre y
    pub front_is : front ≡ before ++ pre

  framed_of : {f : Frame} {st : List Frame} {front : List ℕ} {y : Spot} → Chain (f ∷ st) front y → Framed f st front y
  framed_of (over {f} {st} {front} {pre} {x} {y} c g w) = record { before = front; pre = pre; outer = x; chain = c; given = g; inner = w; front_is = refl }

  module _ {was : List Frame} {s : Spans} {held words : List ℕ} {k at : ℕ} (a : AtAnswer was s held words k at) {f : Frame} {st : List Frame} (e : was ≡ f ∷ st) where
    frame : Framed f st a.front a.here
    frame = framed_of (subst (λ (fs : List Frame). Chain fs a.front a.here) e a.chain)

    base_is : f.base ≡ frame.outer.at
    base_is = frame.inner.base

    module _ {b : ℕ} (eb : b ≡ f.base) where
      pub up_after : (o.root.at ≤ b) × (b ≤ 8192)
      up_after = (omega (arith, base_is, (chain_places frame.chain).0), omega (arith, base_is, frame.given.begins.few))

    module _ {b from : ℕ} (eb : b ≡ f.base) (ef : from ≡ 3 * (b - o.root.at)) where
      before_length : length frame.before ≡ from
      before_length = omega (arith, ef, base_is, (chain_places frame.chain).0)

      all_words : words ≡ frame.before ++ (frame.pre ++ a.us)
      all_words = a.words_are ∙ ap (λ (l : List ℕ). l ++ a.us) frame.front_is ∙ append_assoc frame.before frame.pre a.us

      pub up_inside : from ≤ length words
      up_inside = omega (arith, before_length, ap length all_words ∙ length-append frame.before (frame.pre ++ a.us))

      pub up_back : Back o.code f at k s held (take (length words - from) (drop from words))
      up_back =
          record {
            outer = frame.outer;
            pre = frame.pre;
            inner = a.here;
            returns = record {
              vs = a.us;
              given = frame.given;
              inner = frame.inner;
              answers = a.answers;
              part = (part_of from frame.before (frame.pre ++ a.us) words all_words before_length).0;
              from = a.at_is;
            };
          }

      module _ {after us : List ℕ} {st' : List Frame} {now : Next} {u : Spans} (w : (b : Back o.code f at k s held (take (length words - from) (drop from words))) → Steps o.code (still (query_at C b.outer.node) f) b.outer after us st st' (turn (Std.Ok now) u)) where
        steps_up : Steps o.code (still (query_at C frame.outer.node) f) frame.outer after us st st' (turn (Std.Ok now) u)
        unfolding up_back
        steps_up = w up_back

        up_stands : Stands st' u after (take from words ++ (us ++ drop (length words - from) (drop from words))) now
        up_stands = subst (λ (ws : List ℕ). Stands st' u after ws now) (sym ((part_of from frame.before (frame.pre ++ a.us) words all_words before_length).1 us)) (step_stands frame.chain frame.given steps_up)

        owed_here : owed was ≡ still (query_at C frame.outer.node) f + owed st
        unfolding owed
        owed_here = ap owed e ∙ ap (λ (n : ℕ). still (query_at C n) f + owed st) frame.inner.node

        pub up_goes : {next : Next} → Going was s held words next → length after ≡ length held → length us ≡ length (take (length words - from) (drop from words)) → Going st' u after (take from words ++ (us ++ drop (length words - from) (drop from words))) now
        up_goes h l w = record { stands = up_stands; low = stands_low _ _ _ _ now up_stands; long = l ∙ h.long; wide = back_length from words us up_inside w ∙ h.wide }

        pub up_less : {next : Next} {made : ℕ} → next ≡ Next.Up made at → left st' now < left was next
        up_less p = subst (λ (z : Next). left st' now < left was z) (sym p) (omega (arith, owed_here, step_less frame.chain frame.given steps_up (still_some (query_at C frame.outer.node) f)))

  -- THE END
  chain_end : {front : List ℕ} {y : Spot} → Chain [] front y → (y ≡ o.root) × (front ≡ [])
  chain_end bottom = (refl, refl)

  module _ {st : List Frame} {s : Spans} {held words : List ℕ} {made at : ℕ} (a : AtAnswer st s held words made at) where
    pub end_leaves : st ≡ [] → Evaluated o.root.scope o.root.held (length o.root.rest) words o.root.at (Std.Ok made) (query_at C o.root.node)
    end_leaves e =
        let c = chain_end (subst (λ (fs : List Frame). Chain fs a.front a.here) e a.chain) in
        let w = subst (λ (z : Spot). Answers (query_at C z.node) z (record { made = Std.Ok made; scope = s }) held a.us) c.0 a.answers in
        subst (λ (ws : List ℕ). Evaluated o.root.scope o.root.held (length o.root.rest) ws o.root.at (Std.Ok made) (query_at C o.root.node)) (sym (a.words_are ∙ ap (λ (l : List ℕ). l ++ a.us) c.1)) (record { is = λ env i. w.is.is env i })
