-- A when: behind its condition, and behind its word.
-- Assumes nothing.
use mathlib.Core.Path.{◌≡◌, refl, sym, ap, subst, ◌∙◌}
use mathlib.Core.List.{List, ◌++◌}
use Prim.Native.Nat.{ℕ, suc, ◌+◌, ◌-◌, ◌≤◌, ◌<◌}
use native.Mathlib.Omega.{arith}
use lib.ListN.{length}
use Rattle.meaning.specs.Base.{◌>>=◌}
use Rattle.meaning.specs.Queries.{Cond, Query}
use Rattle.meaning.specs.Texts.{Here, here, Read, expect, cond_at, cond_no, cond_nodes}
use Rattle.std.specs.Prelude as Std
use Rattle.refusals.specs.declared.Refusal.{Refusal}
use Rattle.refusals.specs.declared.Reason.{Reason}
use Rattle.steps.proofs.Expecting.{refusal}
use Rattle.steps.specs.Says as Said
use Rattle.rows.specs.declared.Part.{Part}
use Rattle.rows.specs.Says as Rows
use Rattle.conditions.specs.Says.{Conditions}
use Rattle.items.specs.declared.Act.{Act}
use Rattle.items.specs.declared.Open.{Open}
use Rattle.items.specs.Machine as Machine
use Rattle.items.specs.Machine.{Frame, rows_of, depth, pairs, shows_guarded}
use Rattle.items.specs.Says as Says
use Rattle.items.specs.Says.{Wants, Acts, Does, body_behind, when_behind, Guards}
use Rattle.items.proofs.Outs.{at_here, went_then, went_not}
use Rattle.items.proofs.Frames.{well_later, well_on}
use Rattle.items.proofs.Doing.{refused_does, acts_fewer}
use Rattle.items.proofs.Items.{opening_deep, opening_not}

-- BEHIND THE CONDITION
module _ {s : List ℕ} {at nodes deep : ℕ} where
  pub guard_not : {x : Refusal} → Said.Goes s at (Std.Err x) (λ n. expect s 5 (here at n)) → Guards s at deep nodes (Std.Err x)
  guard_not g = record { is = λ from under k c h code f d fuel stops well rows. Says.refuses (went_not 5 g h stops.place _) }

  pub guard_opens : {next a : ℕ} → Said.Goes s at (Std.Ok next) (λ n. expect s 5 (here at n)) → a ≡ nodes - 1 → deep < 100 → Guards s at deep nodes (Std.Ok (Act.More (Open.Guarded a) (deep + 1) (record { next = next; nodes = nodes })))
  unfolding rows_of depth pairs
  guard_opens {next} {a} g q low =
      let on = g.onward in
      let to : deep + 1 ≡ suc deep = omega arith in
      record {
        is = λ from under k c h code f d fuel stops well rows.
            rw to
            (Says.opens {p = record { next = next; nodes = nodes }} (Machine.guarded c) k (here next h.nodes) (went_then 5 g h stops.place _)
            (shows_guarded {c = c} {a = a} (λ l. omega (arith, q, (rows l).0, stops.count, l)))
            tt
            (omega (arith, f, on.0))
            (omega arith)
            (omega (arith, fuel, on.0))
            (record { place = refl; inside = on.1; count = stops.count })
            (ap suc d)
            (well_on (Machine.guarded c) (well_later well (omega (arith, on.0)) (omega arith)) tt tt (omega (arith, d)) well.few well.most)
            (λ l. (rows l).1));
      }

-- BEHIND THE WORD
pub when_deep : {s : List ℕ} {at nodes place deep : ℕ} {code u : List ℕ} → 100 ≤ deep → Does 0 s at deep nodes code (λ k h. when_behind s place deep k h) (Std.Err (refusal Reason.TooDeep place)) u
when_deep {s} {place = place} {deep = deep} d = refused_does (λ k h. when_behind s place deep k h) (λ k h p. opening_deep deep place _ d)

then : (s : List ℕ) (at place deep : ℕ) → deep < 100 → (k : ℕ) (h : Here) → h.at ≡ at → when_behind s place deep k h ≡ (cond_at s (suc k) (suc deep) (here at h.nodes) >>= λ p. body_behind s deep k p.0 p.1)
then s at place deep low k h p = at_here (when_behind s place deep k) p ∙ opening_not deep place _ low

-- what the condition is, where the text is
reads : {s : List ℕ} {at nodes deep : ℕ} {code u : List ℕ} {r : Std.Result Part Refusal} → Conditions s at (suc deep) code nodes r u → {under : List Frame} {k : ℕ} {h : Here} → Wants s at deep nodes code under k h
    → Rows.Reads cond_no cond_nodes s at h.nodes code u (cond_at s (suc k) (suc deep) (here at h.nodes)) r
reads c {k = k} {h} w = c.is (suc k) h.nodes (omega (arith, w.fuel)) w.stops.count

not_here : {s : List ℕ} {at deep from : ℕ} {e : Refusal} (place : ℕ) {code u : List ℕ} {under : List Frame} (k : ℕ) (h : Here) → deep < 100 → h.at ≡ at
    → Rows.Reads cond_no cond_nodes s at h.nodes code u (cond_at s (suc k) (suc deep) (here at h.nodes)) (Std.Err e) → Acts s from h.nodes under u (when_behind s place deep k h) (Std.Err e)
not_here {s} {at} {deep} place k h low q (Rows.refuses x) = Says.refuses (then s at place deep low k h q ∙ ap (λ (y : Read Cond). y >>= λ z. body_behind s deep k z.0 z.1) x)

on_here : {s : List ℕ} {at deep nodes from : ℕ} {p : Part} (place : ℕ) {code u : List ℕ} {a : Std.Result Act Refusal} {under : List Frame} (k : ℕ) (h : Here) → deep < 100 → Guards s p.next deep p.nodes a → from ≤ at → Wants s at deep nodes code under k h
    → Rows.Reads cond_no cond_nodes s at h.nodes code u (cond_at s (suc k) (suc deep) (here at h.nodes)) (Std.Ok p) → Acts s from h.nodes under u (when_behind s place deep k h) a
on_here {s} {at} {deep} {from = from} place {u = u} {a = a} {under} k h low d f w (Rows.makes c i x place_is count_is after inside more rows) =
    subst (λ (y : Read Query). Acts s from h.nodes under u y a) (sym (then s at place deep low k h w.stops.place ∙ ap (λ (y : Read Cond). y >>= λ z. body_behind s deep k z.0 z.1) x))
    (acts_fewer (omega (arith, more)) (d.is from under k c i u (omega (arith, f, after)) w.open_are (omega (arith, w.fuel, after)) (record { place = place_is; inside = inside; count = count_is })
    (well_later w.well (omega (arith, after)) (omega (arith, more)))
    (λ few. let z = rows few in (z.0, z.1 ∙ ap (λ y. y ++ cond_nodes c) (w.rows (omega (arith, few, more)))))))

module _ {s : List ℕ} {at nodes deep : ℕ} (place : ℕ) {code u : List ℕ} where
  pub when_not : {e : Refusal} → Conditions s at (suc deep) code nodes (Std.Err e) u → deep < 100 → Does 0 s at deep nodes code (λ k h. when_behind s place deep k h) (Std.Err e) u
  when_not c low = record { is = λ from under k h g w. not_here place k h low w.stops.place (reads c w) }

  pub when_on : {p : Part} {a : Std.Result Act Refusal} → Conditions s at (suc deep) code nodes (Std.Ok p) u → deep < 100 → Guards s p.next deep p.nodes a → Does 0 s at deep nodes code (λ k h. when_behind s place deep k h) a u
  when_on c low d = record { is = λ from under k h g w. on_here place k h low d (omega (arith, g)) w (reads c w) }

-- where the text goes on is inside it
ends_inside : {s : List ℕ} {at n : ℕ} {p : Part} {code u : List ℕ} {o : Read Cond} → Rows.Reads cond_no cond_nodes s at n code u o (Std.Ok p) → (p.next ≤ length s) × (p.nodes ≤ 1025)
ends_inside (Rows.makes c i x place_is count_is after inside more rows) = (inside, omega (arith, count_is))

pub when_inside : {s : List ℕ} {at nodes deep : ℕ} {p : Part} {code u : List ℕ} → Conditions s at deep code nodes (Std.Ok p) u → nodes ≤ 1025 → (p.next ≤ length s) × (p.nodes ≤ 1025)
when_inside {s} {nodes = nodes} c few = ends_inside (c.is (suc (length s)) nodes (omega arith) (omega (arith, few)))
