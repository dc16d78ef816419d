-- What each frame does behind the item that was made.
-- Assumes nothing.
use mathlib.Core.Path.{◌≡◌, refl, sym, ap, ◌∙◌}
use mathlib.Core.Bool.{true}
use mathlib.Core.List.{List, [], ◌∷◌, ◌++◌, append_assoc, append-nil}
use Prim.Native.Nat.{ℕ, zero, suc, ◌+◌, ◌-◌, ◌≤◌, ◌<◌, min}
use native.Mathlib.Omega.{arith}
use lib.ListN.{length}
use borrow.Author.Tests.{ne_eqb}
use Rattle.meaning.specs.Base.{ok, ◌>>=◌, find}
use Rattle.meaning.specs.Records.{Node, node}
use Rattle.meaning.specs.Queries.{Cond, Query, pair, element, when}
use Rattle.meaning.specs.Tokens.{token_at}
use Rattle.meaning.specs.Texts.{Here, here, Read, expect, joined_by, query_at, cond_no, query_no, query_nodes}
use Rattle.tokens.specs.declared.Placed.{Placed}
use Rattle.tokens.specs.Says.{kind_of, Tells}
use Rattle.std.specs.Prelude as Std
use Rattle.refusals.specs.declared.Refusal.{Refusal}
use Rattle.steps.specs.Says as Said
use Rattle.items.specs.declared.Act.{Act}
use Rattle.items.specs.declared.Open.{Open}
use Rattle.items.specs.declared.Binder.{Binder}
use Rattle.items.specs.Machine as Machine
use Rattle.items.specs.Machine.{Frame, bound, bound_kind, folded, cont, held, rows_of, depth, pairs, Stands, Deep, Shown, shows_second, shows_body}
use Rattle.items.specs.Says as Says
use Rattle.items.specs.Says.{Well, Stops, Made, Has, Acts, Emitted, Goes}
use Rattle.items.proofs.Outs.{bind_ok, bind_assoc, at_here, went_then, went_not}
use Rattle.items.proofs.Frames.{well_later, well_under, well_on, stands, deep}
use Rattle.items.proofs.Doing.{emitted_acts}

-- ONE NODE MORE over the part that a frame keeps and the item that was made
module _ {s : List ℕ} {at nodes next : ℕ} {y : Open} {code u : List ℕ} {x : Node} {r : Act} {under : List Frame} (f : Frame) {q : Query} {h : Here} (g : Has s at y nodes code under f q h) (e : Emitted nodes x next code r u) where
  pub frame_made : {o : Read Query} (p : Query) → o ≡ ok (p, here next (suc h.nodes)) → at ≤ next → next ≤ length s → query_no p ≡ h.nodes → (h.nodes < 1024 → query_nodes p ≡ held f ++ (query_nodes q ++ (x ∷ []))) → Acts s at h.nodes under u o (Std.Ok r)
  unfolding rows_of
  frame_made p is l m own rows =
      emitted_acts e h.nodes g.stops.count p is l m (well_under f (well_later g.well l (omega arith))) own
      (λ few.
      ap (λ (y : List Node). y ++ (x ∷ [])) (g.made.rows (omega (arith, few))).1
      ∙ append_assoc (rows_of under ++ held f) (query_nodes q) (x ∷ [])
      ∙ append_assoc (rows_of under) (held f) (query_nodes q ++ (x ∷ []))
      ∙ ap (λ (y : List Node). rows_of under ++ y) (sym (rows few)))

  -- the item's own number
  pub last_is : {n : ℕ} → n ≡ nodes - 1 → h.nodes < 1024 → n ≡ query_no q
  last_is z few = omega (arith, z, few, g.stops.count, (g.made.rows (omega (arith, few))).0)

-- ITEMS that commas may follow: pairs whose first parts are not kept
record Folds (s : List ℕ) (ms : List Query) (q : Query) (h : Here) : Type 0 where
  whole_query : Query
  is : folded s ms (q, h) ≡ ok (whole_query, here h.at (h.nodes + length ms))

folds : (s : List ℕ) (ms : List Query) (q : Query) (h : Here) → Folds s ms q h
unfolding folded
folds s [] q h = record { whole_query = q; is = ap (λ (n : ℕ). ok (q, here h.at n)) {x = h.nodes} {y = h.nodes + 0} (omega arith) }
folds s (m ∷ ms) q h =
    let r = folds s ms (pair h.nodes m q) (here h.at (suc h.nodes)) in
    record { whole_query = r.whole_query; is = r.is ∙ ap (λ (n : ℕ). ok (r.whole_query, here h.at n)) {x = suc h.nodes + length ms} {y = h.nodes + suc (length ms)} (omega arith) }

more_counted : (n : ℕ) {nodes : ℕ} (ms : List Query) → Machine.Kept n ms → min n 1025 ≡ nodes → min (n + length ms) 1025 ≡ nodes
more_counted n [] kept e = omega (arith, e)
more_counted n (m ∷ ms) kept e = omega (arith, e, kept)

more_made : (s : List ℕ) {code : List ℕ} {under : List Frame} {k d : ℕ} {q : Query} {h : Here} (ms : List Query) → Machine.Kept h.nodes ms → Made (Machine.tail k d ms ∷ under) q h code → Made under (folds s ms q h).whole_query (here h.at (h.nodes + length ms)) code
unfolding rows_of pairs folds
more_made s {code} {under} {q = q} {h} [] kept m =
    let z : h.nodes + 0 ≡ h.nodes = omega arith in
    rw z (record { few = m.few; rows = λ l. ((m.rows l).0, (m.rows l).1 ∙ ap (λ (y : List Node). y ++ query_nodes q) (append-nil (rows_of under))) })
more_made s {h = h} (n ∷ ns) kept m = record { few = omega (arith, m.few); rows = λ l. absurd (omega (arith, l, kept)) }

module _ (s : List ℕ) (at : ℕ) {t : Placed} (tells : Tells (token_at s at) t) {kind : ℕ} (is : kind ≡ kind_of t.token) where
  -- no comma, and a comma
  alone : (more : Here → Read Query) (q : Query) (h : Here) → h.at ≡ at → (kind ≡ 19 → ⊥) → joined_by s more true (q, h) ≡ ok (q, h)
  unfolding joined_by find
  alone more q h p e = simp (joined_by, find, ne_eqb (token_at s h.at).token.kind 19 (λ z. e (is ∙ tells.token.kind ∙ ap (λ (a : ℕ). (token_at s a).token.kind) (sym p) ∙ z)))

  joined : (more : Here → Read Query) (q : Query) (h : Here) → h.at ≡ at → kind ≡ 19 → joined_by s more true (q, h) ≡ (more (here t.next h.nodes) >>= λ p. cont s (Machine.second q) p)
  unfolding joined_by find cont
  joined more q h p e = at_here (λ (i : Here). joined_by s more true (q, i)) p ∙ rw (sym tells.token.kind ∙ sym is ∙ e, tells.next) refl

  module _ {nodes : ℕ} {y : Open} {code : List ℕ} {under : List Frame} {k d : ℕ} {ms : List Query} {q : Query} {h : Here} (g : Has s at y nodes code under (Machine.tail k d ms) q h) (kept : Machine.Kept h.nodes ms) where
    -- THE LIST ENDS
    pub tail_ends : (kind ≡ 19 → ⊥) → Acts s at h.nodes under code (cont s (Machine.tail k d ms) (q, h)) (Std.Ok (Act.Done (record { next = at; nodes = nodes })))
    unfolding cont
    tail_ends e =
        Says.makes (folds s ms q h).whole_query (here h.at (h.nodes + length ms))
        (ap (λ (o : Read Query). o >>= λ p. folded s ms p) (alone (λ i. query_at s k true d i) q h g.stops.place e) ∙ (folds s ms q h).is) (omega arith) (omega arith)
        (record { place = g.stops.place; inside = g.stops.inside; count = more_counted h.nodes ms kept g.stops.count }) (well_under (Machine.tail k d ms) (well_later g.well (omega arith) (omega arith)))
        (more_made s ms kept g.made)

  -- ONE MORE: its first part is kept
  module _ {a nodes : ℕ} {y : Open} {code : List ℕ} {under : List Frame} {q : Query} {h : Here} (e : kind ≡ 19) (l : at < t.next) (m : t.next ≤ length s) where
    pub tail_second : {b : ℕ} (k : ℕ) (ms : List Query) → Has s at y nodes code under (Machine.tail k a ms) q h → Machine.Kept h.nodes ms → nodes ≤ 1024 → b ≡ nodes - 1 → Acts s at h.nodes under code (cont s (Machine.tail k a ms) (q, h)) (Std.Ok (Act.More (Open.Second b) a (record { next = t.next; nodes = nodes })))
    unfolding cont folded rows_of depth pairs
    tail_second {b} zero ms g kept few z = absurd (omega (arith, l, m, deep g.well))
    tail_second {b} (suc k) (n ∷ ms) g kept few z = absurd (omega (arith, few, kept, g.stops.count))
    tail_second {b} (suc k) [] g kept few z =
        let o = joined (λ i. query_at s (suc k) true a i) q h g.stops.place e in
        Says.opens (Machine.second q) k (here t.next h.nodes) (bind_ok (joined_by s (λ i. query_at s (suc k) true a i) true (q, h)) ∙ o)
        (shows_second (λ low. omega (arith, z, few, g.stops.count, (g.made.rows low).0)))
        tt
        l
        (omega arith)
        (omega (arith, l, deep g.well))
        (record { place = refl; inside = m; count = g.stops.count })
        (stands g.well).0
        (well_on (Machine.second q) (well_later (well_under (Machine.tail (suc k) a []) g.well) (omega (arith, l)) (omega arith)) tt (stands g.well).1 g.well.low g.made.few (omega (arith, g.made.few, few, g.stops.count)))
        (λ low. (g.made.rows low).1 ∙ ap (λ (y : List Node). y ++ query_nodes q) (append-nil (rows_of under)))

    -- or not
    pub tail_again : (k : ℕ) (ms : List Query) → Has s at y nodes code under (Machine.tail k a ms) q h → 1024 < nodes → Acts s at h.nodes under code (cont s (Machine.tail k a ms) (q, h)) (Std.Ok (Act.Again a t.next))
    unfolding cont folded query_at depth pairs
    tail_again zero ms g many = absurd (omega (arith, l, m, deep g.well))
    tail_again (suc k) ms g many =
        let i : Here = here t.next h.nodes in
        let o = ap (λ (x : Read Query). x >>= λ p. folded s ms p) (joined (λ i. query_at s (suc k) true a i) q h g.stops.place e) in
        Says.again k (q ∷ ms) i
        (o
        ∙ bind_assoc (query_at s (suc k) true a i) (λ p. cont s (Machine.second q) p) (λ p. folded s ms p)
        ∙ bind_assoc (Machine.item_at s k a i) (λ p. joined_by s (λ j. query_at s k true a j) true p) (λ p. cont s (Machine.second q) p >>= λ r. folded s ms r))
        l
        (omega arith)
        (omega (arith, l, deep g.well))
        (record { place = refl; inside = m; count = omega (arith, many, g.stops.count) })
        (well_on (Machine.tail k a (q ∷ ms)) (well_later (well_under (Machine.tail (suc k) a ms) g.well) (omega (arith, l)) (omega arith)) (omega (arith, l, deep g.well)) (stands g.well) g.well.low g.well.few g.well.most)

-- A QUERY IN PARENTHESES
module _ {s : List ℕ} {at nodes : ℕ} {y : Open} {code : List ℕ} {under : List Frame} {q : Query} {h : Here} (g : Has s at y nodes code under Machine.group q h) where
  pub group_closes : {next : ℕ} → Said.Goes s at (Std.Ok next) (λ n. expect s 16 (here at n)) → Acts s at h.nodes under code (cont s Machine.group (q, h)) (Std.Ok (Act.Done (record { next = next; nodes = nodes })))
  unfolding cont rows_of pairs
  group_closes {next} w =
      let on = w.onward in
      Says.makes q (here next h.nodes) (went_then 16 w h g.stops.place _) (omega (arith, on.0)) (omega arith) (record { place = refl; inside = on.1; count = g.stops.count })
      (well_under Machine.group (well_later g.well (omega (arith, on.0)) (omega arith)))
      (record { few = g.made.few; rows = λ l. ((g.made.rows l).0, (g.made.rows l).1 ∙ ap (λ (y : List Node). y ++ query_nodes q) (append-nil (rows_of under))) })

  pub group_not : {x : Refusal} → Said.Goes s at (Std.Err x) (λ n. expect s 16 (here at n)) → Acts s at h.nodes under code (cont s Machine.group (q, h)) (Std.Err x)
  unfolding cont
  group_not w = Says.refuses (went_not 16 w h g.stops.place _)

-- A LABEL'S QUERY
module _ {s : List ℕ} {at l nodes : ℕ} {y : Open} {code u : List ℕ} {under : List Frame} {q : Query} {h : Here} (g : Has s at y nodes code under (Machine.inside l) q h) where
  pub inside_closes : {next z : ℕ} {act : Act} → Said.Goes s at (Std.Ok next) (λ n. expect s 18 (here at n)) → z ≡ nodes - 1 → Emitted nodes (node 34 l z 0) next code act u → Acts s at h.nodes under u (cont s (Machine.inside l) (q, h)) (Std.Ok act)
  unfolding cont query_nodes
  inside_closes {next} {z} w k m =
      let on = w.onward in
      frame_made (Machine.inside l) g m (element h.nodes l q) (went_then 18 w h g.stops.place _) (omega (arith, on.0)) on.1 refl
      (λ few. let y = last_is (Machine.inside l) g m k few in rw y refl)

  pub inside_not : {x : Refusal} → Said.Goes s at (Std.Err x) (λ n. expect s 18 (here at n)) → Acts s at h.nodes under u (cont s (Machine.inside l) (q, h)) (Std.Err x)
  unfolding cont
  inside_not w = Says.refuses (went_not 18 w h g.stops.place _)

-- THE SOURCE of a for or let
module _ {s : List ℕ} {at b nodes : ℕ} {y : Open} {code : List ℕ} {under : List Frame} {c : Binder} {v : ℕ} {q : Query} {h : Here} where
  pub source_on : {next x : ℕ} (k : ℕ) → Has s at y nodes code under (Machine.source c v k b) q h → Said.Goes s at (Std.Ok next) (λ n. expect s 5 (here at n)) → x ≡ nodes - 1
      → Acts s at h.nodes under code (cont s (Machine.source c v k b) (q, h)) (Std.Ok (Act.More (Open.Body c v x) b (record { next = next; nodes = nodes })))
  unfolding cont rows_of depth pairs
  source_on {next} {x} zero g w z = absurd (omega (arith, w.onward.0, w.onward.1, deep g.well))
  source_on {next} {x} (suc k) g w z =
      let on = w.onward in
      Says.opens (Machine.body c v q) k (here next h.nodes) (went_then 5 w h g.stops.place _)
      (shows_body (λ low. omega (arith, z, low, g.stops.count, (g.made.rows low).0)))
      tt
      on.0
      (omega arith)
      (omega (arith, on.0, deep g.well))
      (record { place = refl; inside = on.1; count = g.stops.count })
      (stands g.well)
      (well_on (Machine.body c v q) (well_later (well_under (Machine.source c v (suc k) b) g.well) (omega (arith, on.0)) (omega arith)) tt tt g.well.low g.well.few g.well.most)
      (λ low. (g.made.rows low).1 ∙ ap (λ (y : List Node). y ++ query_nodes q) (append-nil (rows_of under)))

  pub source_not : {x : Refusal} (k : ℕ) → Has s at y nodes code under (Machine.source c v k b) q h → Said.Goes s at (Std.Err x) (λ n. expect s 5 (here at n)) → Acts s at h.nodes under code (cont s (Machine.source c v k b) (q, h)) (Std.Err x)
  unfolding cont
  source_not k g w = Says.refuses (went_not 5 w h g.stops.place _)

bound_no : (b : Binder) (n v : ℕ) (p q : Query) → query_no (bound b n v p q) ≡ n
bound_no Binder.For n v p q = refl
bound_no Binder.Let n v p q = refl

bound_nodes : (b : Binder) (n v : ℕ) (p q : Query) → query_nodes (bound b n v p q) ≡ query_nodes p ++ (query_nodes q ++ (node (bound_kind b) v (query_no p) (query_no q) ∷ []))
unfolding query_nodes
bound_nodes Binder.For n v p q = refl
bound_nodes Binder.Let n v p q = refl

-- THE LAST PART of a pair, of a for or let, and of a when
module _ {s : List ℕ} {at a z nodes : ℕ} {y : Open} {code u : List ℕ} {act : Act} {under : List Frame} {q : Query} {h : Here} (k : z ≡ nodes - 1) where
  pub second_made : {m : Query} → Has s at y nodes code under (Machine.second m) q h → (h.nodes ≤ 1024 → a ≡ query_no m) → Emitted nodes (node 35 a z 0) at code act u → Acts s at h.nodes under u (cont s (Machine.second m) (q, h)) (Std.Ok act)
  unfolding cont query_nodes
  second_made {m} g kept e =
      frame_made (Machine.second m) g e (pair h.nodes m q) (ap (λ (i : ℕ). ok (pair h.nodes m q, here i (suc h.nodes))) g.stops.place) (omega arith) g.stops.inside refl
      (λ few. let y = last_is (Machine.second m) g e k few in let x = kept (omega (arith, few)) in rw (x, y) refl)

  pub body_made : (b : Binder) {x : Node} {v : ℕ} {p : Query} → Has s at y nodes code under (Machine.body b v p) q h → (h.nodes ≤ 1024 → a ≡ query_no p) → x ≡ node (bound_kind b) v a z → Emitted nodes x at code act u → Acts s at h.nodes under u (cont s (Machine.body b v p) (q, h)) (Std.Ok act)
  unfolding cont
  body_made b {v = v} {p} g kept d e =
      frame_made (Machine.body b v p) g e (bound b h.nodes v p q) (ap (λ (i : ℕ). ok (bound b h.nodes v p q, here i (suc h.nodes))) g.stops.place) (omega arith) g.stops.inside (bound_no b h.nodes v p q)
      (λ few. let y = last_is (Machine.body b v p) g e k few in let x = kept (omega (arith, few)) in bound_nodes b h.nodes v p q ∙ rw (d, x, y) refl)

  pub when_made : {c : Cond} → Has s at y nodes code under (Machine.guarded c) q h → (h.nodes ≤ 1024 → a ≡ cond_no c) → Emitted nodes (node 41 a z 0) at code act u → Acts s at h.nodes under u (cont s (Machine.guarded c) (q, h)) (Std.Ok act)
  unfolding cont query_nodes
  when_made {c = c} g kept e =
      frame_made (Machine.guarded c) g e (when h.nodes c q) (ap (λ (i : ℕ). ok (when h.nodes c q, here i (suc h.nodes))) g.stops.place) (omega arith) g.stops.inside refl
      (λ few. let y = last_is (Machine.guarded c) g e k few in let x = kept (omega (arith, few)) in rw (x, y) refl)
