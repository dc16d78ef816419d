-- Inside a node that is begun: what its first part left behind it, where its parts are done, that they have the same room, and that their refusals are its own.
-- Assumes nothing.
use Rattle.std.specs.Prelude as Std
use mathlib.Core.Path.{◌≡◌, refl, sym, ap, subst, ◌∙◌}
use mathlib.Core.List.{List, ◌∷◌}
use Prim.Native.Nat.{ℕ, ◌+◌, ◌*◌, ◌-◌, ◌/◌, ◌≤◌}
use native.Mathlib.Omega.{arith}
use lib.ListN.{length, take, drop, length-append, length-drop}
use lib.Seq.{length-take-le}
use Rattle.meaning.specs.Base.{Out, ok, refused, ◌>>=◌}
use Rattle.meaning.specs.Forests.{Forest, join, tree, end}
use Rattle.meaning.specs.Records.{Node}
use Rattle.meaning.specs.Queries as Queries
use Rattle.meaning.specs.Queries.{Query, query_at}
use Rattle.meaning.specs.Running.{Env, eval}
use Rattle.meaning.proofs.Forests.{words_determine}
use Rattle.words.proofs.Rows.{stored_length}
use Rattle.spans.specs.declared.Span.{Span}
use Rattle.spans.specs.Shows.{bound, Shows}
use Rattle.spans.proofs.Binding.{shows_bind, shows_below}
use Rattle.copies.specs.Fills.{first}
use Rattle.running.specs.declared.Frame.{Frame}
use Rattle.running.specs.Evaluates.{Begins, Among, looped}
use Rattle.running.specs.Machine.{Spot, spot, Given, Gave, holding, Half, InFirst, InElement, InPair, InLet, InFor, Within}
use Rattle.running.proofs.Given.{Behind, begins_on, top_same}
use Rattle.running.proofs.Leaving.{left_done, element_is, pair_is, let_is, for_is, pair_not, let_not, for_not, when_is}
use Rattle.running.proofs.Wholes.{behind_part, behind_held, among_held, source_held}
use Rattle.running.proofs.Rounds.{turn_behind, turn_stops, tree_is, rounds_fit, rounds_long}

-- by what a frame keeps
pub half_first : {n : Std.Option ℕ} (A : Type 0) (B : ℕ → Type 0) → n ≡ Std.None → Half n A B → A
half_first A B e h = subst (λ (n : Std.Option ℕ). Half n A B) e h

pub half_second : {n : Std.Option ℕ} (A : Type 0) (B : ℕ → Type 0) (k : ℕ) → n ≡ Std.Some k → Half n A B → B k
half_second A B k e h = subst (λ (n : Std.Option ℕ). Half n A B) e h

-- all the entries that a spot has
abbrev pub top_of : Spot → ℕ
top_of x = x.at + length x.rest / 3

-- BEHIND A FIRST PART of k entries, as it is and with its forest held
module _ {C : List Node} {x : Spot} (given : Given C x) {p : Query} {k : ℕ} {after us : List ℕ} (g : Gave p x k after us) where
  pub had_behind : Behind x.scope x.held x.rest x.at k x.scope after (drop (3 * k) us)
  had_behind = behind_part given.begins g.is refl g.long

  pub had_fits : 3 * k ≤ length x.rest
  had_fits = had_behind.fits

  pub had_front : length (take (3 * k) us) ≡ 3 * k
  had_front = length-take-le (3 * k) us (omega (arith, had_fits, g.wide))

  pub held_long : length (holding x k after us) ≡ length after
  held_long = stored_length after (take (3 * k) us) (3 * x.at) (omega (arith, had_front, had_fits, given.begins.room, given.begins.whole, g.long))

  pub had_held : Behind x.scope x.held x.rest x.at k x.scope (holding x k after us) (drop (3 * k) us)
  had_held = behind_held given.begins g.is refl g.long refl held_long

  pub had_among : Among (holding x k after us) x.at (x.at + k) (x.at + k)
  had_among = among_held given.begins g.is refl g.long refl held_long

  pub second_begins : Begins x.scope after (drop (3 * k) us) (x.at + k)
  second_begins = begins_on given.begins had_behind

  pub held_begins : Begins x.scope (holding x k after us) (drop (3 * k) us) (x.at + k)
  held_begins = begins_on given.begins had_held

  pub few_entries : x.at + k ≤ 8192
  few_entries = omega (arith, given.begins.few, given.begins.whole, had_fits)

-- by what a frame keeps, whatever that is
pub half_either : {A : Type 0} {B : ℕ → Type 0} (P : Type 0) (n : Std.Option ℕ) → Half n A B → (A → P) → ((k : ℕ) → B k → P) → P
half_either P Std.None h a b = a h
half_either P (Std.Some k) h a b = b k h

-- WHERE A PART IS DONE: behind so many words, with as much room at the end
pub record Placed (x : Spot) (pre : List ℕ) (y : Spot) : Type 0 where
  pub top : top_of y ≡ top_of x
  pub place : length pre + 3 * x.at ≡ 3 * y.at
  pub words : length pre + length y.rest ≡ length x.rest

pub record Stops (top : ℕ) (q : Query) (x : Spot) (m : ℕ) : Type 0 where
  pub is : (env : Env) → Shows x.held x.scope env → eval top q env x.at ≡ refused 21 m

module _ {C : List Node} {x : Spot} (given : Given C x) where
  placed_behind : (k : ℕ) (pre : List ℕ) (y : Spot) → 3 * k ≤ length x.rest → length pre ≡ 3 * k → y.at ≡ x.at + k → length y.rest ≡ length x.rest - 3 * k → Placed x pre y
  placed_behind k pre y fits long at words = record { top = omega (arith, given.begins.whole); place = omega arith; words = omega arith }

  first_placed : {p : Query} {pre : List ℕ} {y : Spot} → InFirst C p x pre y → Placed x pre y
  first_placed {pre = pre} {y} h = placed_behind 0 pre y (omega arith) (ap length h.front) (ap (λ (z : Spot). z.at) h.is ∙ omega arith) (ap (λ (z : Spot). length z.rest) h.is ∙ omega arith)

  element_placed : {q : Query} {pre : List ℕ} {y : Spot} → InElement C q x pre y → Placed x pre y
  element_placed {pre = pre} {y} h = placed_behind 1 pre y (omega (arith, h.room)) (ap length h.front ∙ length-take-le 3 x.rest h.room) (ap (λ (z : Spot). z.at) h.is) (ap (λ (z : Spot). length z.rest) h.is ∙ length-drop 3 x.rest)

  module _ {p : Query} {k : ℕ} {after us : List ℕ} (g : Gave p x k after us) where
    second_words : length (drop (3 * k) us) ≡ length x.rest - 3 * k
    second_words = length-drop (3 * k) us ∙ omega (arith, g.wide)

    second_placed : (pre : List ℕ) (y : Spot) → pre ≡ take (3 * k) us → y.at ≡ x.at + k → y.rest ≡ drop (3 * k) us → Placed x pre y
    second_placed pre y front at rest = placed_behind k pre y (had_fits given g) (ap length front ∙ had_front given g) at (ap length rest ∙ second_words)

  for_placed : {v : ℕ} {p q : Query} {k : ℕ} {f : Frame} {pre : List ℕ} {y : Spot} → InFor C v p q k f x pre y → Placed x pre y
  for_placed {k = k} {pre = pre} {y} h =
      let m = h.m in
      let b = held_begins given h.gave in
      let a = had_among given h.gave in
      let fit = rounds_fit b a h.rounds in
      let long = rounds_long b a h.rounds in
      placed_behind (k + m) pre y
      (omega (arith, fit, long, second_words h.gave, had_fits given h.gave))
      (ap length h.front ∙ length-append (take (3 * k) h.us) (take (3 * m) h.vs) ∙ omega (arith, had_front given h.gave, length-take-le (3 * m) h.vs fit))
      (ap (λ (z : Spot). z.at) h.is ∙ omega arith)
      (ap (λ (z : Spot). length z.rest) h.is ∙ length-drop (3 * m) h.vs ∙ omega (arith, long, second_words h.gave))

  pub within_placed : (q : Query) (f : Frame) (pre : List ℕ) (y : Spot) → Within C q f x pre y → Placed x pre y
  within_placed (Queries.nothing n) f pre y h = absurd h
  within_placed (Queries.text n t) f pre y h = absurd h
  within_placed (Queries.element n l q) f pre y h = element_placed h
  within_placed (Queries.pair n p q) f pre y h =
      half_either (Placed x pre y) f.first h first_placed (λ k i. second_placed i.gave pre y i.front (ap (λ (z : Spot). z.at) i.is) (ap (λ (z : Spot). z.rest) i.is))
  within_placed (Queries.variable n v) f pre y h = absurd h
  within_placed (Queries.child n v w) f pre y h = absurd h
  within_placed (Queries.dos n v w) f pre y h = absurd h
  within_placed (Queries.for n v p q) f pre y h = half_either (Placed x pre y) f.first h first_placed (λ k i. for_placed i)
  within_placed (Queries.let_in n v p q) f pre y h =
      half_either (Placed x pre y) f.first h first_placed (λ k i. second_placed i.gave pre y i.front (ap (λ (z : Spot). z.at) i.is) (ap (λ (z : Spot). z.rest) i.is))
  within_placed (Queries.when n c q) f pre y h = first_placed h.first

  -- A REFUSAL of a part is the node's
  module _ (m : ℕ) where
    part_stops : (top i : ℕ) {q : Query} (y z : Spot) → y ≡ z → query_at C i ≡ q → Stops top (query_at C i) y m → Stops top q z m
    part_stops top i y z e f s = subst (λ (r : Query). Stops top r z m) f (subst (λ (w : Spot). Stops top (query_at C i) w m) e s)

    abbrev Inside_stops : Spot → Query → Type 0
    Inside_stops y q = Stops (top_of x) (query_at C y.node) y m → Stops (top_of x) q x m

    first_stops : {p : Query} {pre : List ℕ} {y : Spot} → InFirst C p x pre y → Inside_stops y p
    first_stops {y = y} h s = record { is = (part_stops (top_of x) y.node y (spot y.node x.at x.scope x.held x.rest) h.is h.part s).is }

    element_stops : {n l : ℕ} {q : Query} {pre : List ℕ} {y : Spot} → InElement C q x pre y → Inside_stops y (Queries.element n l q)
    element_stops {n} {l} {q} {y = y} h s =
        let i = part_stops (top_of x) y.node y (spot y.node (x.at + 1) x.scope x.held (drop 3 x.rest)) h.is h.part s in
        record { is = λ env e. element_is (top_of x) n env x.at l q (omega (arith, h.room, given.begins.whole)) ∙ ap (λ (o : Out Forest). o >>= λ f. ok (tree l f end)) (i.is env e) }

    pair_stops : {n : ℕ} {p q : Query} {k : ℕ} {pre : List ℕ} {y : Spot} → InPair C p q k x pre y → Inside_stops y (Queries.pair n p q)
    pair_stops {n} {p} {q} {k} {y = y} h s =
        let i = part_stops (top_of x) y.node y (spot y.node (x.at + k) x.scope h.after (drop (3 * k) h.us)) h.is h.part s in
        record {
          is = λ env e.
              let a = left_done refl (h.gave.is.is env e) in
              pair_is (top_of x) n env x.at p q a.is a.filled.count ∙ ap (λ (o : Out Forest). o >>= λ g. ok (join a.forest g)) (i.is env (shows_below given.begins.inside h.gave.is.below e));
        }

    let_stops : {n v : ℕ} {p q : Query} {k : ℕ} {f : Frame} {pre : List ℕ} {y : Spot} → InLet C v p q k f x pre y → Inside_stops y (Queries.let_in n v p q)
    let_stops {n} {v} {p} {q} {k} {y = y} h s =
        let span : Span = record { from = x.at; to = x.at + k } in
        let i = part_stops (top_of x) y.node y (spot y.node (x.at + k) (bound x.scope v span) (holding x k h.after h.us) (drop (3 * k) h.us)) h.is h.part s in
        record {
          is = λ env e.
              let a = left_done refl (h.gave.is.is env e) in
              let b = held_begins given h.gave in
              let held = source_held given.begins h.gave.is refl h.gave.long refl (held_long given h.gave) a.filled in
              let shown = shows_below given.begins.inside (had_held given h.gave).kept e in
              let_is (top_of x) n env x.at p q a.is a.filled.count v ∙ i.is ((v, a.forest) ∷ env) (shows_bind b.inside v (omega (arith, h.few)) span a.forest held shown);
        }

    for_stops : {n v : ℕ} {p q : Query} {k : ℕ} {f : Frame} {pre : List ℕ} {y : Spot} → InFor C v p q k f x pre y → Inside_stops y (Queries.for n v p q)
    for_stops {n} {v} {p} {q} {k} {f} {y = y} h s =
        let span : Span = record { from = h.j; to = f.next } in
        let i = part_stops (top_of x) y.node y (spot y.node (x.at + k + h.m) (bound x.scope v span) h.now_held (drop (3 * h.m) h.vs)) h.is h.part s in
        let b = held_begins given h.gave in
        let a = had_among given h.gave in
        let t = turn_behind b a h.rounds in
        let tree = tree_is b a h.rounds h.more h.next in
        let o = begins_on b t in
        record {
          is = λ env e.
              let got = left_done refl (h.gave.is.is env e) in
              let held = source_held given.begins h.gave.is refl h.gave.long refl (held_long given h.gave) got.filled in
              let shown = shows_below given.begins.inside (had_held given h.gave).kept e in
              let inside = shows_bind o.inside v (omega (arith, h.few)) span (first h.rounds.coming) tree (shows_below b.inside t.kept shown) in
              let same = words_determine got.forest h.rounds.source (sym held ∙ h.rounds.was) in
              for_is (top_of x) n env x.at p q got.is got.filled.count v
              ∙ ap (λ (z : Forest). looped v z q (top_of x) env (x.at + k)) same
              ∙ ap (λ (w : ℕ). looped v h.rounds.source q w env (x.at + k)) (sym (top_same given.begins (had_held given h.gave)))
              ∙ turn_stops b a h.rounds h.more h.next env shown (ap (λ (w : ℕ). eval w q ((v, first h.rounds.coming) ∷ env) (x.at + k + h.m)) (top_same given.begins (had_held given h.gave)) ∙ i.is ((v, first h.rounds.coming) ∷ env) inside);
        }

    pub within_stops : (q : Query) (f : Frame) (pre : List ℕ) (y : Spot) → Within C q f x pre y → Inside_stops y q
    within_stops (Queries.nothing n) f pre y h = absurd h
    within_stops (Queries.text n t) f pre y h = absurd h
    within_stops (Queries.element n l q) f pre y h = element_stops h
    within_stops (Queries.pair n p q) f pre y h = half_either (Inside_stops y (Queries.pair n p q)) f.first h (λ i s. record { is = λ env e. pair_not (top_of x) n env x.at p q ((first_stops i s).is env e) }) (λ k i. pair_stops i)
    within_stops (Queries.variable n v) f pre y h = absurd h
    within_stops (Queries.child n v w) f pre y h = absurd h
    within_stops (Queries.dos n v w) f pre y h = absurd h
    within_stops (Queries.for n v p q) f pre y h = half_either (Inside_stops y (Queries.for n v p q)) f.first h (λ i s. record { is = λ env e. for_not (top_of x) n env x.at p q ((first_stops i s).is env e) v }) (λ k i. for_stops i)
    within_stops (Queries.let_in n v p q) f pre y h = half_either (Inside_stops y (Queries.let_in n v p q)) f.first h (λ i s. record { is = λ env e. let_not (top_of x) n env x.at p q ((first_stops i s).is env e) v }) (λ k i. let_stops i)
    within_stops (Queries.when n c q) f pre y h = λ s. record { is = λ env e. when_is (top_of x) n env x.at c q (h.holds env e) ∙ (first_stops h.first s).is env e }
