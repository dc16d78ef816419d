-- Up at a node, by its kind: it is done, or its next part comes.
-- Assumes nothing.
use Rattle.std.specs.Prelude as Std
use mathlib.Core.Path.{◌≡◌, refl, sym, ap, subst, ◌∙◌}
use mathlib.Core.List.{List, [], ◌∷◌, ◌++◌, append_assoc}
use Prim.Native.Nat.{ℕ, ◌+◌, ◌*◌, ◌-◌, ◌/◌, ◌≤◌, ◌<◌}
use native.Mathlib.Omega.{arith}
use types.Run.{OneOf, miss}
use denote.Enum.Declared.{tag_of}
use lib.ListN.{length, take, drop, length-append, take-append-drop}
use Rattle.meaning.specs.Records.{Node, node_at}
use Rattle.meaning.specs.Queries as Queries
use Rattle.meaning.specs.Queries.{Query, Cond, query_at, cond_at}
use Rattle.meaning.specs.Running.{eval}
use Rattle.words.specs.Tables.{stored}
use Rattle.spans.specs.declared.Span.{Span}
use Rattle.spans.specs.declared.Spans.{Spans}
use Rattle.spans.specs.Shows.{standing, bound}
use Rattle.moves.specs.Moves.{Room, Wraps, Moves}
use Rattle.queries.specs.Says.{query_of, Says}
use Rattle.queries.specs.declared.Query as Nodes
use Rattle.queries.specs.contracts.Query as Kinds
use Rattle.queries.proofs.Named.{query_is}
use Rattle.running.specs.declared.Frame.{Frame}
use Rattle.running.specs.Evaluates.{Step, Rounds, bodied}
use Rattle.running.specs.Machine.{Turn, sunk, Spot, spot, Answers, Gave, holding, InFirst, InElement, InWhen, InPair, InLet, InFor, Within, Steps, Returns, Looping, done, risen, weight, still}
use Rattle.running.proofs.Given.{begins_on, begins_bind}
use Rattle.running.proofs.Leaving.{Got, lifted, left_as, when_is, let_is}
use Rattle.running.proofs.Wholes.{over_length, part_got, element_leaves, element_room, pair_leaves, bound_leaves, inside_leaves}
use Rattle.running.proofs.Rounds.{rounds_start, turn_behind, turn_next}
use Rattle.running.proofs.Inside.{half_first, half_second, Placed, within_placed, had_fits, had_front, held_long, had_among, second_begins, held_begins, few_entries}
use Rattle.running.proofs.Parts.{answers_as, answers_at, answers_in, answers_own, less_or, half_make, pair_less, let_less, for_source, rounds_as, steps_more, turn_as, comes}

module _ {code : List Node} {f : Frame} {x : Spot} {pre : List ℕ} {y : Spot} {at k : ℕ} {s : Spans} {held rest : List ℕ} (r : Returns code f x pre y at k s held rest) where
  abbrev C : List Node
  C = code

  abbrev step : Step
  step = record { made = Std.Ok k; scope = s }

  within_as : {q : Query} → query_at C x.node ≡ q → Within C q f x pre y
  within_as e = subst (λ (q : Query). Within C q f x pre y) e r.inner.within

  pub returns_placed : Placed x pre y
  returns_placed = within_placed r.given (query_at C x.node) f pre y r.inner.within

  got : Got (length y.rest) r.vs k (eval (y.at + length y.rest / 3) (query_at C y.node) r.inner.given.begins.env y.at)
  got = part_got r.inner.given.begins r.answers.is refl

  -- how much there is
  pub returns_fits : length pre + 3 * k ≤ length x.rest
  returns_fits = omega (arith, returns_placed.words, got.filled.fits)

  pub returns_low : at + k ≤ 8192
  returns_low = omega (arith, r.from, r.inner.given.begins.few, r.inner.given.begins.whole, got.filled.fits)

  pub returns_wide : length rest ≡ length x.rest
  returns_wide = ap length r.part ∙ length-append pre r.vs ∙ omega (arith, r.answers.wide, returns_placed.words)

  -- THE NODE IS DONE
  pub done_up : {t : Step} {after us : List ℕ} → Answers (query_at C x.node) x t after us → {base : ℕ} → base ≡ f.base → {most : ℕ} {st st' : List Frame} {u : Turn} → st' ≡ st → u ≡ risen t base → Steps code most x after us st st' u
  done_up {t} a b est eu = done t a est (eu ∙ ap (λ (i : ℕ). risen t i) (b ∙ r.inner.base))

  -- AN ELEMENT'S BODY is done
  module _ {n l : ℕ} {q : Query} (e : query_at C x.node ≡ Queries.element n l q) where
    inside_element : InElement C q x pre y
    inside_element = within_as e

    body : Answers q (spot y.node (x.at + 1) x.scope x.held (drop 3 x.rest)) step held r.vs
    body = answers_as inside_element.part (answers_at inside_element.is r.answers)

    part_is : rest ≡ take 3 x.rest ++ r.vs
    part_is = r.part ∙ ap (λ (ws : List ℕ). ws ++ r.vs) inside_element.front

    pub element_space : Room (length rest) 1 k
    element_space = subst (λ (ws : List ℕ). Room (length ws) 1 k) (sym part_is) (element_room r.given.begins n l q inside_element.room body.is body.wide)

    pub element_up : {us : List ℕ} → Wraps rest us l k → length us ≡ length rest → Answers (query_at C x.node) x (record { made = Std.Ok (1 + k); scope = s }) held us
    element_up {us} w long =
        answers_as (sym e) (record {
          is = element_leaves r.given.begins n l q inside_element.room body.is body.wide (subst (λ (ws : List ℕ). Wraps ws us l k) part_is w);
          long = body.long;
          wide = long ∙ returns_wide;
        })

  -- its first part is done
  module _ {p : Query} (h : InFirst C p x pre y) where
    pub first_gave : Gave p x k held r.vs
    first_gave = let a = answers_own (answers_as h.part (answers_at h.is r.answers)) in record { is = a.is; long = a.long; wide = a.wide }

    pub first_scope : s ≡ x.scope
    first_scope = r.answers.is.kept ∙ ap (λ (z : Spot). z.scope) h.is

    pub first_part : rest ≡ r.vs
    first_part = r.part ∙ ap (λ (ws : List ℕ). ws ++ r.vs) h.front

    pub first_at_lem : at ≡ x.at
    first_at_lem = r.from ∙ ap (λ (z : Spot). z.at) h.is

  -- WHEN
  module _ {n : ℕ} {c : Cond} {q : Query} (e : query_at C x.node ≡ Queries.when n c q) where
    inside_when : InWhen C c q x pre y
    inside_when = within_as e

    pub when_up : Answers (query_at C x.node) x step held rest
    when_up =
        let g = answers_as inside_when.first.part (answers_at inside_when.first.is r.answers) in
        answers_in (sym (first_part inside_when.first)) (answers_as (sym e) (record {
          is = record { kept = g.is.kept; below = g.is.below; is = λ env i. left_as (when_is (x.at + length x.rest / 3) n env x.at c q (inside_when.holds env i)) (g.is.is env i) };
          long = g.long;
          wide = g.wide;
        }))

    pub when_at : at ≡ x.at
    when_at = first_at_lem inside_when.first

  -- PAIR
  module _ {n : ℕ} {p q : Query} (e : query_at C x.node ≡ Queries.pair n p q) where
    module _ {first : ℕ} (kept : f.first ≡ Std.Some first) where
      inside_pair : InPair C p q first x pre y
      inside_pair = half_second (InFirst C p x pre y) (λ i. InPair C p q i x pre y) first kept (within_as e)

      pub pair_up : {c : ℕ} → c ≡ first → {t : Step} → t ≡ lifted c step → Answers (query_at C x.node) x t held rest
      pair_up {c} ec z =
          let h = inside_pair in
          let a = answers_as h.part (answers_at h.is r.answers) in
          answers_in (sym (r.part ∙ ap (λ (ws : List ℕ). ws ++ r.vs) h.front)) (answers_as (sym e) (record {
            is = pair_leaves r.given.begins n p q h.gave.is refl h.gave.long a.is (z ∙ ap (λ (i : ℕ). lifted i step) ec);
            long = a.long ∙ h.gave.long;
            wide = over_length (3 * first) h.us r.vs (omega (arith, had_fits r.given h.gave, h.gave.wide)) a.wide ∙ h.gave.wide;
          }))

    module _ (first : f.first ≡ Std.None) where
      begun_pair : InFirst C p x pre y
      begun_pair = half_first (InFirst C p x pre y) (λ i. InPair C p q i x pre y) first (within_as e)

      pub pair_on : (i : ℕ) → query_at C i ≡ q → i < x.node → (g : Frame) → g.node ≡ f.node → g.base ≡ f.base → g.first ≡ Std.Some k
          → {st st' : List Frame} {t : Turn} → st' ≡ g ∷ st → t ≡ sunk i (at + k) s → Steps code (still (query_at C x.node) f) x held rest st st' t
      pair_on i is low g gn gb gk est et =
          let h = begun_pair in
          let w = first_gave h in
          let inside : InPair C p q k x (take (3 * k) r.vs) (spot i (x.at + k) x.scope held (drop (3 * k) r.vs)) = record { after = held; us = r.vs; gave = w; part = is; front = refl; is = refl } in
          comes r.given (still (query_at C x.node) f) g (take (3 * k) r.vs) (drop (3 * k) r.vs) i (x.at + k) x.scope held (gn ∙ r.inner.node) (gb ∙ r.inner.base) low (second_begins r.given w)
          (subst (λ (z : Query). Within C z g x (take (3 * k) r.vs) (spot i (x.at + k) x.scope held (drop (3 * k) r.vs))) (sym e) (half_make (InFirst C p x (take (3 * k) r.vs) (spot i (x.at + k) x.scope held (drop (3 * k) r.vs))) (λ j. InPair C p q j x (take (3 * k) r.vs) (spot i (x.at + k) x.scope held (drop (3 * k) r.vs))) k gk inside))
          (subst (λ (z : Query). still (query_at C x.node) g + weight z < still (query_at C x.node) f) (sym is) (subst (λ (z : Query). still z g + weight q < still z f) (sym e) (pair_less n 0 p q f g k gk first)))
          refl
          (first_part h ∙ sym (take-append-drop (3 * k) r.vs))
          est
          (turn_as et (ap (λ (j : ℕ). j + k) (first_at_lem h)) (first_scope h))

  -- what is made has room behind the words before it
  pub room_behind : (first : ℕ) → length pre ≡ 3 * first → Room (length rest) first k
  room_behind first e = record { few = omega (arith, returns_wide, r.given.begins.few, r.given.begins.whole); fits = omega (arith, returns_wide, returns_fits) }

  -- LET
  module _ {n v : ℕ} {p q : Query} (e : query_at C x.node ≡ Queries.let_in n v p q) where
    module _ {first : ℕ} (kept : f.first ≡ Std.Some first) where
      inside_let : InLet C v p q first f x pre y
      inside_let = half_second (InFirst C p x pre y) (λ i. InLet C v p q i f x pre y) first kept (within_as e)

      pub let_space : {c : ℕ} → c ≡ first → Room (length rest) c k
      let_space {c} ec = subst (λ (i : ℕ). Room (length rest) i k) (sym ec) (room_behind first (ap length inside_let.front ∙ had_front r.given inside_let.gave))

      pub let_up : {i c : ℕ} → i ≡ v → c ≡ first → {u : Spans} {us : List ℕ} → u ≡ bound s i f.hides → Moves rest us c k → length us ≡ length rest → Answers (query_at C x.node) x (record { made = Std.Ok k; scope = u }) held us
      let_up {i} {c} ei ec {u} {us} unbound moves long =
          let h = inside_let in
          let g = h.gave in
          let a = answers_as h.part (answers_at h.is r.answers) in
          let z = subst (λ (ws : List ℕ). Moves ws us first k) (r.part ∙ ap (λ (ws : List ℕ). ws ++ r.vs) h.front) (subst (λ (j : ℕ). Moves rest us j k) ec moves) in
          answers_as (sym e) (record {
            is = bound_leaves r.given.begins p (Queries.let_in n v p q) (λ y. bodied v y q) g.is refl g.long g.wide refl (held_long r.given g) (λ top env y i c. let_is top n env x.at p q i c v) (inside_leaves (held_begins r.given g) (record { from = x.at; to = x.at + first }) f.hides q h.few refl refl h.hides (unbound ∙ ap (λ (j : ℕ). bound s j f.hides) ei) a.is) a.wide z;
            long = a.long ∙ held_long r.given g ∙ g.long;
            wide = long ∙ returns_wide;
          })

    module _ (first : f.first ≡ Std.None) where
      begun_let : InFirst C p x pre y
      begun_let = half_first (InFirst C p x pre y) (λ i. InLet C v p q i f x pre y) first (within_as e)

      pub let_on : v ≤ 63 → (i : ℕ) → query_at C i ≡ q → i < x.node → (g : Frame) → g.node ≡ f.node → g.base ≡ f.base → g.first ≡ Std.Some k → {w b : ℕ} → w ≡ v → b ≡ f.base → g.hides ≡ standing s w
          → {after : List ℕ} {u : Spans} → after ≡ stored held (3 * b) (take (3 * k) rest) → u ≡ bound s w (record { from = f.base; to = b + k })
          → {st st' : List Frame} {t : Turn} → st' ≡ g ∷ st → t ≡ sunk i (at + k) u → Steps code (still (query_at C x.node) f) x after rest st st' t
      let_on few i is low g gn gb gk {w = j} {b} ej eb gh ea eu est et =
          let h = begun_let in
          let w = first_gave h in
          let span : Span = record { from = x.at; to = x.at + k } in
          let among = had_among r.given w in
          let z : Spot = spot i (x.at + k) (bound x.scope v span) (holding x k held r.vs) (drop (3 * k) r.vs) in
          let inside : InLet C v p q k g x (take (3 * k) r.vs) z = record { few = few; after = held; us = r.vs; gave = w; hides = gh ∙ ap (λ (c : ℕ). standing s c) ej ∙ ap (λ (c : Spans). standing c v) (first_scope h); part = is; front = refl; is = refl } in
          comes r.given (still (query_at C x.node) f) g (take (3 * k) r.vs) (drop (3 * k) r.vs) i (x.at + k) (bound x.scope v span) (holding x k held r.vs) (gn ∙ r.inner.node) (gb ∙ r.inner.base) low
          (begins_bind (held_begins r.given w) span few refl (omega arith) (omega arith) among.forest among.is refl)
          (subst (λ (c : Query). Within C c g x (take (3 * k) r.vs) z) (sym e) (half_make (InFirst C p x (take (3 * k) r.vs) z) (λ j. InLet C v p q j g x (take (3 * k) r.vs) z) k gk inside))
          (subst (λ (c : Query). still (query_at C x.node) g + weight c < still (query_at C x.node) f) (sym is) (subst (λ (c : Query). still c g + weight q < still c f) (sym e) (let_less n v p q f g k gk first)))
          (ea ∙ ap (λ (c : ℕ). stored held (3 * c) (take (3 * k) rest)) (eb ∙ r.inner.base) ∙ ap (λ (ws : List ℕ). stored held (3 * x.at) (take (3 * k) ws)) (first_part h))
          (first_part h ∙ sym (take-append-drop (3 * k) r.vs))
          est
          (turn_as et (ap (λ (j : ℕ). j + k) (first_at_lem h)) (eu ∙ ap (λ (c : ℕ). bound s c (record { from = f.base; to = b + k })) ej ∙ ap (λ (c : ℕ). bound s v (record { from = f.base; to = c + k })) eb ∙ ap (λ (c : ℕ). bound s v (record { from = c; to = c + k })) r.inner.base ∙ ap (λ (c : Spans). bound c v span) (first_scope h)))

      pub base_low : f.base + k ≤ 8192
      base_low = omega (arith, r.inner.base, few_entries r.given (first_gave begun_let))

      pub source_fits : (3 * k ≤ length rest) × (3 * f.base + 3 * k ≤ length held)
      source_fits = (omega (arith, returns_wide, had_fits r.given (first_gave begun_let)), omega (arith, r.inner.base, had_fits r.given (first_gave begun_let), r.given.begins.room, r.given.begins.whole, (first_gave begun_let).long))

  -- FOR
  module _ {v i : ℕ} {p : Query} (e : query_at C x.node ≡ Queries.for x.node v p (query_at C i)) (low : i < x.node) where
    module _ {first : ℕ} (kept : f.first ≡ Std.Some first) where
      inside_for : InFor C v p (query_at C i) first f x pre y
      inside_for = half_second (InFirst C p x pre y) (λ j. InFor C v p (query_at C i) j f x pre y) first kept (within_as e)

      body_at : at ≡ f.base + first + inside_for.m
      body_at = r.from ∙ ap (λ (z : Spot). z.at) inside_for.is ∙ omega (arith, r.inner.base)

      pub body_from : f.base + first ≤ at
      body_from = omega (arith, body_at)

      -- the body of one tree is done
      pub body_loops : {w : ℕ} → w ≡ v → {u : Spans} {m : ℕ} → u ≡ bound s w f.hides → m ≡ at - (f.base + first) + k → Looping v i f m u held rest
      body_loops ew {u} {m} unbound em =
          let h = inside_for in
          let g = h.gave in
          let b = held_begins r.given g in
          let among = had_among r.given g in
          let o = begins_on b (turn_behind b among h.rounds) in
          let a = answers_as h.part (answers_at h.is r.answers) in
          let z = turn_next b among h.rounds h.more h.next (inside_leaves o (record { from = h.j; to = f.next }) f.hides (query_at C i) h.few refl refl h.hides (unbound ∙ ap (λ (j : ℕ). bound s j f.hides) ew) a.is) refl a.long in
          record {
            code = code;
            outer = x;
            given = r.given;
            node = r.inner.node;
            base = r.inner.base;
            first = p;
            is = e;
            low = low;
            k = first;
            kept = kept;
            after = h.after;
            us = h.us;
            gave = g;
            vs = take (3 * h.m) h.vs ++ r.vs;
            rounds = subst (λ (j : ℕ). Rounds v (query_at C i) x.scope (holding x first h.after h.us) (drop (3 * first) h.us) (x.at + first) x.at (x.at + first) held (take (3 * h.m) h.vs ++ r.vs) u f.next j) (omega (arith, em, body_at)) z;
            part = r.part ∙ ap (λ (ws : List ℕ). ws ++ r.vs) h.front ∙ append_assoc (take (3 * first) h.us) (take (3 * h.m) h.vs) r.vs;
          }

      pub body_steps : {w : ℕ} → w ≡ v → {u : Spans} {m : ℕ} → u ≡ bound s w f.hides → m ≡ at - (f.base + first) + k → {after us : List ℕ} {st st' : List Frame} {t : Turn}
          → ((l : Looping v i f m u held rest) → Steps l.code (still (query_at l.code l.outer.node) f) l.outer after us st st' t) → Steps code (still (query_at C x.node) f) x after us st st' t
      unfolding body_loops
      body_steps ew unbound em h = h (body_loops ew unbound em)

    module _ (first : f.first ≡ Std.None) where
      begun_for : InFirst C p x pre y
      begun_for = half_first (InFirst C p x pre y) (λ j. InFor C v p (query_at C i) j f x pre y) first (within_as e)

      pub for_fits : (3 * k ≤ length rest) × (3 * f.base + 3 * k ≤ length held)
      for_fits = (omega (arith, returns_wide, had_fits r.given (first_gave begun_for)), omega (arith, r.inner.base, had_fits r.given (first_gave begun_for), r.given.begins.room, r.given.begins.whole, (first_gave begun_for).long))

      pub for_low : f.base + k ≤ 8192
      for_low = omega (arith, r.inner.base, few_entries r.given (first_gave begun_for))

      -- its source is done
      pub source_loops : (g : Frame) → g.node ≡ f.node → g.base ≡ f.base → g.first ≡ Std.Some k → g.next ≡ f.base → {b : ℕ} → b ≡ f.base → {after : List ℕ} → after ≡ stored held (3 * b) (take (3 * k) rest) → Looping v i g 0 s after rest
      source_loops g gn gb gk gx eb {after} ea =
          let h = begun_for in
          let w = first_gave h in
          let start = rounds_start {v = v} {q = query_at C i} (held_begins r.given w) (had_among r.given w) in
          let held_is : after ≡ holding x k held r.vs = ea ∙ ap (λ (b : ℕ). stored held (3 * b) (take (3 * k) rest)) (eb ∙ r.inner.base) ∙ ap (λ (ws : List ℕ). stored held (3 * x.at) (take (3 * k) ws)) (first_part h) in
          record {
            code = code;
            outer = x;
            given = r.given;
            node = gn ∙ r.inner.node;
            base = gb ∙ r.inner.base;
            first = p;
            is = e;
            low = low;
            k = k;
            kept = gk;
            after = held;
            us = r.vs;
            gave = w;
            vs = drop (3 * k) r.vs;
            rounds = rounds_as held_is (first_scope h) (gx ∙ r.inner.base) start;
            part = first_part h ∙ sym (take-append-drop (3 * k) r.vs);
          }

      source_less : (g : Frame) → g.base ≡ f.base → g.first ≡ Std.Some k → g.next ≡ f.base → still (query_at C x.node) g ≤ still (query_at C x.node) f
      source_less g gb gk gx = subst (λ (c : Query). still c g ≤ still c f) (sym e) (less_or (for_source x.node v p (query_at C i) f g k gk first (omega (arith, for_low))))

      pub source_steps : (g : Frame) → g.node ≡ f.node → g.base ≡ f.base → g.first ≡ Std.Some k → g.next ≡ f.base → {b : ℕ} → b ≡ f.base → {after : List ℕ} → after ≡ stored held (3 * b) (take (3 * k) rest) → {now us : List ℕ} {st st' : List Frame} {t : Turn}
          → ((l : Looping v i g 0 s after rest) → Steps l.code (still (query_at l.code l.outer.node) g) l.outer now us st st' t) → Steps code (still (query_at C x.node) f) x now us st st' t
      unfolding source_loops
      source_steps g gn gb gk gx eb ea h = steps_more (source_less g gb gk gx) (h (source_loops g gn gb gk gx eb ea))

  pub node_inside : {n : ℕ} → n ≡ f.node → n < length code
  node_inside e = omega (arith, r.inner.node, r.given.low)

  -- WHAT THE NODE SAYS
  module _ {n : ℕ} (en : n ≡ f.node) {c : Nodes.Query} (says : Says n (node_at code n) c) where
    pub said : Says x.node (node_at code x.node) c
    said = subst (λ (m : ℕ). Says m (node_at code m) c) (en ∙ r.inner.node) says

    pub says_query : (z : Nodes.Query) → c ≡ z → query_at C x.node ≡ query_of x.node (cond_at C) (query_at C) z
    says_query z e = query_is code r.given.lowers r.given.low said ∙ ap (query_of x.node (cond_at C) (query_at C)) e

    -- a when, or a node that has no parts and so is not begun
    abbrev Up : Type 0
    Up = Answers (query_at C x.node) x step held rest × (at ≡ x.at)

    other : (z : Nodes.Query) → c ≡ z → OneOf (0 ∷ 1 ∷ 4 ∷ 5 ∷ 6 ∷ 9 ∷ []) (tag_of Kinds.the_type z) → Up
    other Nodes.TheVariants.Nothing e h = absurd (within_as (says_query Nodes.TheVariants.Nothing e))
    other (Nodes.TheVariants.Text t) e h = absurd (within_as (says_query (Nodes.TheVariants.Text t) e))
    other (Nodes.TheVariants.Variable v) e h = absurd (within_as (says_query (Nodes.TheVariants.Variable v) e))
    other (Nodes.TheVariants.Child v w) e h = absurd (within_as (says_query (Nodes.TheVariants.Child v w) e))
    other (Nodes.TheVariants.Dos v w) e h = absurd (within_as (says_query (Nodes.TheVariants.Dos v w) e))
    other (Nodes.TheVariants.When p q) e h = (when_up (says_query (Nodes.TheVariants.When p q) e), when_at (says_query (Nodes.TheVariants.When p q) e))
    other (Nodes.TheVariants.Element l q) e h = absurd (miss (0 ∷ 1 ∷ 4 ∷ 5 ∷ 6 ∷ 9 ∷ []) 2 tt h)
    other (Nodes.TheVariants.Pair p q) e h = absurd (miss (0 ∷ 1 ∷ 4 ∷ 5 ∷ 6 ∷ 9 ∷ []) 3 tt h)
    other (Nodes.TheVariants.For v p q) e h = absurd (miss (0 ∷ 1 ∷ 4 ∷ 5 ∷ 6 ∷ 9 ∷ []) 7 tt h)
    other (Nodes.TheVariants.Let v p q) e h = absurd (miss (0 ∷ 1 ∷ 4 ∷ 5 ∷ 6 ∷ 9 ∷ []) 8 tt h)

    pub other_up : OneOf (0 ∷ 1 ∷ 4 ∷ 5 ∷ 6 ∷ 9 ∷ []) (tag_of Kinds.the_type c) → {most : ℕ} {st st' : List Frame} {u : Turn} → st' ≡ st → u ≡ risen step at → Steps code most x held rest st st' u
    other_up h est eu = let z = other c refl h in done step z.0 est (eu ∙ ap (λ (i : ℕ). risen step i) z.1)
