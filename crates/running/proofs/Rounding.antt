-- A round of a for, whose source is held: the next tree's body comes, or there is none and all bodies are moved down.
-- Assumes nothing.
use Rattle.std.specs.Prelude as Std
use mathlib.Core.Path.{◌≡◌, refl, sym, ap, subst, ◌∙◌}
use mathlib.Core.List.{List, ◌∷◌, ◌++◌, append_assoc}
use Prim.Native.Nat.{ℕ, ◌+◌, ◌*◌, ◌≤◌, ◌<◌}
use native.Mathlib.Omega.{arith}
use lib.ListN.{length, get_or, take, drop, length-append, take-append-drop}
use Rattle.meaning.specs.Queries as Queries
use Rattle.meaning.specs.Queries.{Query, query_at}
use Rattle.spans.specs.declared.Span.{Span}
use Rattle.spans.specs.declared.Spans.{Spans}
use Rattle.spans.specs.Shows.{standing, bound, part}
use Rattle.moves.specs.Moves.{Room, Moves}
use Rattle.running.specs.declared.Frame.{Frame}
use Rattle.running.specs.Evaluates.{Step, Begins, Among, Rounds, looped}
use Rattle.running.specs.Machine.{Turn, sunk, Spot, spot, holding, InFirst, InFor, Within, Steps, Looping, done, risen, weight, still}
use Rattle.running.proofs.Given.{begins_on, begins_bind}
use Rattle.running.proofs.Leaving.{for_is}
use Rattle.running.proofs.Wholes.{over_length, bound_leaves}
use Rattle.running.proofs.Rounds.{rounds_end, turn_behind, turn_ends, turn_among, rounds_fit, rounds_long}
use Rattle.running.proofs.Inside.{had_fits, had_front, held_long, had_among, held_begins}
use Rattle.running.proofs.Parts.{answers_as, half_make, for_less, turn_as, comes}

-- A ROUND of a for begins
module _ {v q : ℕ} {f : Frame} {m : ℕ} {s : Spans} {held rest : List ℕ} (l : Looping v q f m s held rest) where
  abbrev x : Spot
  x = l.outer

  abbrev now : Query
  now = query_at l.code q

  source : Begins x.scope (holding x l.k l.after l.us) (drop (3 * l.k) l.us) (x.at + l.k)
  source = held_begins l.given l.gave

  among : Among (holding x l.k l.after l.us) x.at (x.at + l.k) (x.at + l.k)
  among = had_among l.given l.gave

  bodies_fit : 3 * m ≤ length l.vs
  bodies_fit = rounds_fit source among l.rounds

  bodies_long : length l.vs ≡ length (drop (3 * l.k) l.us)
  bodies_long = rounds_long source among l.rounds

  pub loop_wide : length rest ≡ length x.rest
  loop_wide = ap length l.part ∙ over_length (3 * l.k) l.us l.vs (omega (arith, had_fits l.given l.gave, l.gave.wide)) bodies_long ∙ l.gave.wide

  loop_words : 3 * (l.k + m) ≤ length x.rest
  loop_words = omega (arith, bodies_fit, loop_wide, ap length l.part ∙ length-append (take (3 * l.k) l.us) l.vs, had_front l.given l.gave)

  pub loop_low : f.base + l.k + m ≤ 8192
  loop_low = omega (arith, l.base, loop_words, l.given.begins.few, l.given.begins.whole)

  loop_held : length held ≡ length x.held
  loop_held = l.rounds.long ∙ held_long l.given l.gave ∙ l.gave.long

  pub loop_inside : 3 * (f.base + l.k) ≤ length held
  loop_inside = omega (arith, l.base, had_fits l.given l.gave, l.given.begins.room, l.given.begins.whole, loop_held)

  loop_room : Room (length rest) l.k m
  loop_room = record { few = omega (arith, loop_wide, l.given.begins.few, l.given.begins.whole); fits = omega (arith, loop_wide, loop_words) }

  -- the source's entries, as the code has them
  module _ {c : ℕ} (ec : f.first ≡ Std.Some c) where
    pub source_is : c ≡ l.k
    source_is = let e : ◌≡◌ {A = Std.Option ℕ} (Std.Some c) (Std.Some l.k) = sym ec ∙ l.kept in cc

    pub loop_space : Room (length rest) c m
    loop_space = subst (λ (i : ℕ). Room (length rest) i m) (sym source_is) loop_room

  module _ {b c j : ℕ} (eb : b ≡ f.base) (ec : f.first ≡ Std.Some c) (ej : j ≡ f.next) where
    pub more_is : j < b + c → f.next < f.base + l.k
    more_is h = omega (arith, source_is ec)

    pub none_is : b + c ≤ j → f.base + l.k ≤ f.next
    none_is h = omega (arith, source_is ec)

  -- there is no tree any more
  pub round_up : f.base + l.k ≤ f.next → {c : ℕ} → f.first ≡ Std.Some c → {us : List ℕ} → Moves rest us c m → length us ≡ length rest
      → {base : ℕ} → base ≡ f.base → {most : ℕ} {st st' : List Frame} {u : Turn} → st' ≡ st → u ≡ risen (record { made = Std.Ok m; scope = s }) base → Steps l.code most x held us st st' u
  round_up end ec {us} moves long eb est eu =
      let g = l.gave in
      let t : Step = record { made = Std.Ok m; scope = s } in
      let z = subst (λ (ws : List ℕ). Moves ws us l.k m) l.part (subst (λ (i : ℕ). Moves rest us i m) (source_is ec) moves) in
      done t (answers_as (sym l.is) (record {
        is = bound_leaves l.given.begins l.first (Queries.for x.node v l.first now) (λ y. looped v y now) g.is refl g.long g.wide refl (held_long l.given g) (λ top env y i c. for_is top x.node env x.at l.first now i c v) (rounds_end source among l.rounds (omega (arith, l.base))) bodies_long z;
        long = loop_held;
        wide = long ∙ loop_wide;
      }))
      est
      (eu ∙ ap (λ (i : ℕ). risen t i) (eb ∙ l.base))

  -- there is one
  module _ (more : f.next < f.base + l.k) where
    here : f.next < x.at + l.k
    here = omega (arith, l.base)

    pub there_is : {j c : ℕ} → j ≡ f.next → c ≡ get_or held (3 * j + 2) 0 → j + (c + 1) ≡ f.next + get_or held (3 * f.next + 2) 0 + 1
    there_is {j} {c} ej ec = let z : c ≡ get_or held (3 * f.next + 2) 0 = ec ∙ ap (λ (n : ℕ). get_or held (3 * n + 2) 0) ej in omega (arith, z, ej)

    module _ {end : ℕ} (there : end ≡ f.next + get_or held (3 * f.next + 2) 0 + 1) where
      pub tree_ends : (f.next < end) × (end ≤ f.base + l.k)
      tree_ends = let z = turn_ends source among l.rounds here there in (z.0, omega (arith, z.1, l.base))

      pub round_on : v ≤ 63 → (g : Frame) → g.node ≡ f.node → g.base ≡ f.base → g.first ≡ f.first → g.next ≡ end → {w b c : ℕ} → w ≡ v → b ≡ f.base → f.first ≡ Std.Some c → g.hides ≡ standing s w → {from to : ℕ} {u : Spans} → u ≡ bound s w (record { from = from; to = to }) → from ≡ f.next → to ≡ end
          → {st st' : List Frame} {t : Turn} → st' ≡ g ∷ st → t ≡ sunk q (b + c + m) u → Steps l.code (still (query_at l.code x.node) f) x held rest st st' t
      round_on few g gn gb gk gx {w = w} {b = b} {c} ew eb ec gh {to = to} eu efrom eto est et =
          let r = subst (λ (c : Spans). Rounds v now x.scope (holding x l.k l.after l.us) (drop (3 * l.k) l.us) (x.at + l.k) x.at (x.at + l.k) held l.vs c f.next m) l.rounds.kept l.rounds in
          let o = begins_on source (turn_behind source among r) in
          let ends = turn_ends source among l.rounds here there in
          let tree = turn_among source among l.rounds here there in
          let span : Span = record { from = f.next; to = g.next } in
          let pre : List ℕ = take (3 * l.k) l.us ++ take (3 * m) l.vs in
          let z : Spot = spot q (x.at + l.k + m) (bound x.scope v span) held (drop (3 * m) l.vs) in
          let inside : InFor l.code v l.first now l.k g x pre z =
          record { few = few; after = l.after; us = l.us; gave = l.gave; now_held = held; vs = l.vs; j = f.next; m = m; rounds = r; more = here; next = gx ∙ there; hides = gh ∙ ap (λ (c : ℕ). standing s c) ew ∙ ap (λ (c : Spans). standing c v) l.rounds.kept; part = refl; front = refl; is = refl } in
          comes l.given (still (query_at l.code x.node) f) g pre (drop (3 * m) l.vs) q (x.at + l.k + m) (bound x.scope v span) held (gn ∙ l.node) (gb ∙ l.base) l.low
          (begins_bind o span few refl (omega (arith, ends.0, gx)) (omega (arith, ends.1, gx)) tree.forest (ap (λ (j : ℕ). part held f.next j) gx ∙ tree.is) refl)
          (subst (λ (c : Query). Within l.code c g x pre z) (sym l.is) (half_make (InFirst l.code l.first x pre z) (λ j. InFor l.code v l.first now j g x pre z) l.k (gk ∙ l.kept) inside))
          (subst (λ (c : Query). still c g + weight now < still c f) (sym l.is) (for_less x.node v l.first now f g l.k (gk ∙ l.kept) l.kept (omega (arith, gb, gx, ends.0, ends.1, l.base))))
          refl
          (l.part ∙ ap (λ (ws : List ℕ). take (3 * l.k) l.us ++ ws) (sym (take-append-drop (3 * m) l.vs)) ∙ sym (append_assoc (take (3 * l.k) l.us) (take (3 * m) l.vs) (drop (3 * m) l.vs)))
          est
          (turn_as et (ap (λ (j : ℕ). j + c + m) (eb ∙ l.base) ∙ ap (λ (j : ℕ). x.at + j + m) (source_is ec)) (eu ∙ ap (λ (j : ℕ). bound s w (record { from = j; to = to })) efrom ∙ ap (λ (j : ℕ). bound s w (record { from = f.next; to = j })) eto ∙ ap (λ (c : ℕ). bound s c (record { from = f.next; to = end })) ew ∙ ap (λ (j : ℕ). bound s v (record { from = f.next; to = j })) (sym gx) ∙ ap (λ (c : Spans). bound c v span) l.rounds.kept))
