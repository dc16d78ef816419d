-- Down at a node, by its kind: it is done, or a part of it comes.
-- Assumes nothing.
use Rattle.std.specs.Prelude as Std
use mathlib.Core.Path.{◌≡◌, refl, sym, ap, subst, ◌∙◌}
use mathlib.Core.Bool.{Bool, true, false}
use mathlib.Core.List.{List, [], ◌∷◌}
use Prim.Native.Nat.{ℕ, ◌+◌, ◌≤◌, ◌<◌}
use native.Mathlib.Omega.{arith}
use lib.ListN.{length, take, drop, take-append-drop}
use Rattle.meaning.specs.Records.{Node, node_at}
use Rattle.meaning.specs.Forests.{Forest}
use Rattle.meaning.specs.Queries as Queries
use Rattle.meaning.specs.Queries.{Query, Cond, query_at, cond_at}
use Rattle.meaning.specs.Running.{Env, eval, written}
use Rattle.spans.specs.declared.Spans.{Spans}
use Rattle.picks.specs.Picks.{Picks}
use Rattle.truths.specs.Tells.{Tells}
use Rattle.queries.specs.Says.{query_of, Says}
use Rattle.queries.specs.declared.Query as Nodes
use Rattle.queries.proofs.Named.{query_is}
use Rattle.running.specs.declared.Frame.{Frame}
use Rattle.copies.specs.Fills.{Made, no_room}
use Rattle.running.specs.Evaluates.{Step, Ready, Evaluates, valued}
use Rattle.running.specs.Machine.{Turn, sunk, Spot, spot, fresh, Answers, InFirst, Within, Steps, Guards, done, risen, weight, still}
use Rattle.running.proofs.Given.{begins_on, behind_first}
use Rattle.running.proofs.Wholes.{nothing_leaves, picked, element_stops, when_none, places}
use Rattle.running.proofs.Parts.{comes}

-- there is always something to do
pub weight_some : (q : Query) → 1 ≤ weight q
unfolding weight
weight_some (Queries.nothing n) = omega arith
weight_some (Queries.text n t) = omega arith
weight_some (Queries.element n l q) = omega arith
weight_some (Queries.pair n p q) = omega arith
weight_some (Queries.variable n v) = omega arith
weight_some (Queries.child n v w) = omega arith
weight_some (Queries.dos n v w) = omega arith
weight_some (Queries.for n v p q) = omega arith
weight_some (Queries.let_in n v p q) = omega arith
weight_some (Queries.when n c q) = omega arith

module _ {code : List Node} {s : Spans} {held rest : List ℕ} {at n : ℕ} (h : Ready code s held rest at n) where
  abbrev here : Spot
  here = spot n at s held rest

  abbrev query : ℕ → Query
  query i = query_at code i

  abbrev cond : ℕ → Cond
  cond i = cond_at code i

  -- what the node says
  pub asked : {c : Nodes.Query} → Says n (node_at code n) c → (z : Nodes.Query) → c ≡ z → query n ≡ query_of n cond query z
  asked says z e = query_is code h.lowers h.low says ∙ ap (query_of n cond query) e

  pub few_here : (n < 1024) × (at ≤ 8192)
  few_here = (omega (arith, h.low, h.lowers.few), omega (arith, h.begins.few))

  -- THE NODE IS DONE
  pub leaf_done : {q : Query} → query n ≡ q → {us : List ℕ} {r : Step} → Evaluates s held held (length rest) us at r (valued q) → length us ≡ length rest → {most : ℕ} {st st' : List Frame} {t : Turn} → st' ≡ st → t ≡ risen r at → Steps code most here held us st st' t
  leaf_done {q} e {us} {r} w long est et = done r (subst (λ (z : Query). Answers z here r held us) (sym e) (record { is = w; long = refl; wide = long })) est et

  -- a copy
  pub copy_done : (q : Query) → query n ≡ q → (chosen : Env → Forest) → ((top : ℕ) (env : Env) → eval top q env at ≡ written top n at (chosen env)) → {us : List ℕ} {made : Made} → Picks s held (length rest) us n made chosen → length us ≡ length rest
      → {most : ℕ} {st st' : List Frame} {t : Turn} → st' ≡ st → t ≡ risen (record { made = made; scope = s }) at → Steps code most here held us st st' t
  copy_done q e chosen law p long est et = leaf_done e (picked h.begins n chosen q law p) long est et

  -- ITS FIRST PART COMES
  module _ (i : ℕ) (low : i < n) (st : List Frame) {st' : List Frame} {t : Turn} (est : st' ≡ fresh n at ∷ st) (et : t ≡ sunk i at s) where
    first_in : (q : Query) → query i ≡ q → InFirst code q here [] (spot i at s held rest)
    first_in q e = record { part = e; front = refl; is = refl }

    abbrev Comes : Type 0
    Comes = Steps code (weight (query n)) here held rest st st' t

    first_comes : {q : Query} → query n ≡ q → Within code q (fresh n at) here [] (spot i at s held rest) → still q (fresh n at) + weight (query i) < weight q → Comes
    first_comes {q} e w less =
        comes h (weight (query n)) (fresh n at) [] rest i at s held refl refl low h.begins (subst (λ (z : Query). Within code z (fresh n at) here [] (spot i at s held rest)) (sym e) w) (subst (λ (z : Query). still z (fresh n at) + weight (query i) < weight z) (sym e) less) refl refl est et

    pub pair_comes : {q : Query} → query n ≡ Queries.pair n (query i) q → Comes
    unfolding weight still
    pair_comes {q} e = first_comes e (first_in (query i) refl) (omega arith)

    pub for_comes : {v : ℕ} {q : Query} → query n ≡ Queries.for n v (query i) q → Comes
    unfolding weight still
    for_comes {v} {q} e = first_comes e (first_in (query i) refl) (omega arith)

    pub let_comes : {v : ℕ} {q : Query} → query n ≡ Queries.let_in n v (query i) q → Comes
    unfolding weight still
    let_comes {v} {q} e = first_comes e (first_in (query i) refl) (omega arith)

    pub when_comes : {c : Cond} → query n ≡ Queries.when n c (query i) → {told : Bool} → Tells s held told c → told ≡ true → Comes
    unfolding weight still
    when_comes e w p = first_comes e (record { first = first_in (query i) refl; holds = λ env z. sym (w.is env z) ∙ p }) (omega arith)

  -- an element's body
  pub element_comes : {l : ℕ} (i : ℕ) → i < n → query n ≡ Queries.element n l (query i) → 3 ≤ length rest → {st st' : List Frame} {t : Turn} → st' ≡ fresh n at ∷ st → t ≡ sunk i (at + 1) s → Steps code (weight (query n)) here held rest st st' t
  unfolding weight still
  element_comes {l} i low e room est et =
      comes h (weight (query n)) (fresh n at) (take 3 rest) (drop 3 rest) i (at + 1) s held refl refl low (begins_on h.begins (behind_first h.begins room))
      (subst (λ (z : Query). Within code z (fresh n at) here (take 3 rest) (spot i (at + 1) s held (drop 3 rest))) (sym e) (record { part = refl; room = room; front = refl; is = refl }))
      (subst (λ (z : Query). still z (fresh n at) + weight (query i) < weight z) (sym e) (omega arith))
      refl
      (sym (take-append-drop 3 rest))
      est
      et

  pub element_done : {l : ℕ} (i : ℕ) → query n ≡ Queries.element n l (query i) → length rest < 3 → {most : ℕ} {st st' : List Frame} {t : Turn} → st' ≡ st → t ≡ risen (record { made = Std.Err (no_room n); scope = s }) at → Steps code most here held rest st st' t
  element_done {l} i e room est et = leaf_done e (element_stops h.begins n l (query i) room) refl est et

  -- nothing, and a when whose condition does not hold
  pub nothing_done : query n ≡ Queries.nothing n → {most : ℕ} {st st' : List Frame} {t : Turn} → st' ≡ st → t ≡ risen (record { made = Std.Ok 0; scope = s }) at → Steps code most here held rest st st' t
  nothing_done e est et = leaf_done e (nothing_leaves h.begins n refl) refl est et

  pub when_done : {c : Cond} {q : Query} → query n ≡ Queries.when n c q → {told : Bool} → Tells s held told c → told ≡ false → {most : ℕ} {st st' : List Frame} {t : Turn} → st' ≡ st → t ≡ risen (record { made = Std.Ok 0; scope = s }) at → Steps code most here held rest st st' t
  when_done {c} {q} e w p est et = leaf_done e (when_none h.begins n c q w refl p) refl est et

  -- what a when is given
  pub guards : {p : ℕ} → p < n → Guards code s held at n p
  guards l = record { lowers = h.lowers; low = h.low; lower = l; places = places h.begins; few = omega (arith, h.begins.few) }

-- the same condition under another name
pub tells_at : (code : List Node) (i p : ℕ) {s : Spans} {held : List ℕ} {told : Bool} → i ≡ p → Tells s held told (cond_at code i) → Tells s held told (cond_at code p)
tells_at code i p {s} {held} {told} e h = subst (λ (j : ℕ). Tells s held told (cond_at code j)) e h
