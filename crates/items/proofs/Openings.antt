-- What each item does where it is to be read: variables and their steps, and the items that open a frame.
-- Assumes nothing.
use mathlib.Core.Path.{◌≡◌, refl, ap, ◌∙◌}
use mathlib.Core.List.{List, ◌∷◌}
use Prim.Native.Nat.{ℕ, zero, suc, ◌+◌, ◌≤◌, ◌<◌}
use native.Mathlib.Omega.{arith}
use lib.ListN.{length}
use Rattle.meaning.specs.Records.{node}
use Rattle.meaning.specs.Queries.{nothing, variable}
use Rattle.meaning.specs.Tokens.{token_at}
use Rattle.meaning.specs.Texts.{Here, here, expect, number_in, variable_at, step_at, query_nodes}
use Rattle.tokens.specs.declared.Placed.{Placed}
use Rattle.tokens.specs.Says.{kind_of, Tells}
use Rattle.std.specs.Prelude as Std
use Rattle.refusals.specs.declared.Refusal.{Refusal}
use Rattle.refusals.specs.declared.Reason.{Reason}
use Rattle.steps.proofs.Expecting.{refusal}
use Rattle.steps.specs.declared.Got.{Got}
use Rattle.steps.specs.Says as Said
use Rattle.items.specs.declared.Act.{Act}
use Rattle.items.specs.declared.Open.{Open}
use Rattle.items.specs.declared.Binder.{Binder}
use Rattle.items.specs.declared.Axis.{Axis}
use Rattle.items.specs.Machine as Machine
use Rattle.items.specs.Machine.{Frame, cont, rows_of, opens, depth, waits, pairs, sign_of, Deep, Shown, shows_group, shows_inside, shows_source}
use Rattle.items.specs.Says.{Wants, Acts, Emitted, Does, test_behind, step_behind, variable_item, group_behind, inside_at, element_at, sign_behind, bound_behind}
use Rattle.items.proofs.Outs.{got_then, got_not, went_then, went_not}
use Rattle.items.proofs.Doing.{refused_does, leaf_does, opens_acts, does_later}
use Rattle.items.proofs.Items.{token_on, step_child, step_dos, step_none, group_nothing, group_query, inside_not, inside_deep, inside_query, opening_deep, opening_not}

-- one more is open, and no pair waits, behind a frame that opens
opened_depth : (f : Frame) (under : List Frame) → opens f (depth under) ≡ suc (depth under) → depth (f ∷ under) ≡ suc (depth under)
unfolding depth
opened_depth f under e = e

no_pair : (f : Frame) (under : List Frame) → waits f (pairs under) ≡ pairs under → pairs (f ∷ under) ≡ pairs under
unfolding pairs
no_pair f under e = e

-- BEHIND A VARIABLE
module _ (s : List ℕ) (at : ℕ) {nodes : ℕ} (v : ℕ) {code u : List ℕ} {a : Std.Result Act Refusal} {t : Placed} (tells : Tells (token_at s at) t) {kind : ℕ} (is : kind ≡ kind_of t.token) where
  step_on : (b : Axis) → ((h : Here) → h.at ≡ at → step_at s v h ≡ test_behind b s v (here t.next h.nodes)) → (at < t.next) × (t.next ≤ length s) → ((deep : ℕ) → Does 0 s t.next deep nodes code (λ k h. test_behind b s v h) a u)
      → (deep : ℕ) → Does 0 s at deep nodes code (λ k h. step_behind s v h) a u
  step_on b f l d deep = does_later (λ k h. step_behind s v h) (λ k h. test_behind b s v h) (d deep) (omega (arith, l.0)) l.1 (λ k h p. f h p)

  pub child_on : kind ≡ 22 → at ≤ length s → ((deep : ℕ) → Does 0 s t.next deep nodes code (λ k h. test_behind Axis.Child s v h) a u) → (deep : ℕ) → Does 0 s at deep nodes code (λ k h. step_behind s v h) a u
  child_on e l = step_on Axis.Child (λ h p. step_child s at tells is v h p e) (token_on s at tells is l (omega (arith, e)))

  pub dos_on : kind ≡ 23 → at ≤ length s → ((deep : ℕ) → Does 0 s t.next deep nodes code (λ k h. test_behind Axis.Dos s v h) a u) → (deep : ℕ) → Does 0 s at deep nodes code (λ k h. step_behind s v h) a u
  dos_on e l = step_on Axis.Dos (λ h p. step_dos s at tells is v h p e) (token_on s at tells is l (omega (arith, e)))

pub step_ends : (s : List ℕ) (at : ℕ) {nodes : ℕ} (v : ℕ) {code u : List ℕ} {a : Act} {t : Placed} (tells : Tells (token_at s at) t) {kind : ℕ} → kind ≡ kind_of t.token → (kind ≡ 22 → ⊥) → (kind ≡ 23 → ⊥) → at ≤ length s → Emitted nodes (node 36 v 0 0) at code a u → (deep : ℕ) → Does 0 s at deep nodes code (λ k h. step_behind s v h) (Std.Ok a) u
unfolding query_nodes
step_ends s at v tells is x y l m deep = leaf_does (λ k h. step_behind s v h) (λ n. variable n v) m (λ k h p. step_none s at tells is v h p x y) (omega arith) l (λ n. refl) (λ n. refl)

module _ {s : List ℕ} {at nodes : ℕ} {code u : List ℕ} where
  pub variable_on : {v : Got} {a : Std.Result Act Refusal} → Said.Gives s at (Std.Ok v) (λ n. variable_at s (here at n)) → ((deep : ℕ) → Does 0 s v.next deep nodes code (λ k h. step_behind s v.value h) a u) → (deep : ℕ) → Does 0 s at deep nodes code (λ k h. variable_item s h) a u
  variable_on {v} g d deep = does_later (λ k h. variable_item s h) (λ k h. step_behind s v.value h) (d deep) (omega (arith, g.onward.0)) g.onward.1 (λ k h p. got_then (variable_at s) g h p _)

  pub variable_not : {x : Refusal} → Said.Gives s at (Std.Err x) (λ n. variable_at s (here at n)) → (deep : ℕ) → Does 0 s at deep nodes code (λ k h. variable_item s h) (Std.Err x) u
  variable_not g deep = refused_does (λ k h. variable_item s h) (λ k h p. got_not (variable_at s) g h p _)

-- A PARENTHESIS
pub group_deep : {s : List ℕ} {at nodes place deep : ℕ} {code u : List ℕ} → 100 ≤ deep → Does 1 s at deep nodes code (λ k h. group_behind s place deep k h) (Std.Err (refusal Reason.TooDeep place)) u
group_deep {s} {place = place} {deep = deep} d = refused_does (λ k h. group_behind s place deep k h) (λ k h p. opening_deep deep place _ d)

module _ (s : List ℕ) (at : ℕ) {nodes : ℕ} {code : List ℕ} (place deep : ℕ) {t : Placed} (tells : Tells (token_at s at) t) {kind : ℕ} (is : kind ≡ kind_of t.token) (low : deep < 100) where
  pub group_none : {a : Act} {u : List ℕ} → kind ≡ 16 → at ≤ length s → Emitted nodes (node 32 0 0 0) t.next code a u → Does 1 s at deep nodes code (λ k h. group_behind s place deep k h) (Std.Ok a) u
  unfolding query_nodes
  group_none e l d =
      let on = token_on s at tells is l (omega (arith, e)) in
      leaf_does (λ k h. group_behind s place deep k h) (λ n. nothing n) d (λ k h p. group_nothing s at tells is place deep k h p low e) (omega (arith, on.0)) on.1 (λ n. refl) (λ n. refl)

  pub group_opens : (kind ≡ 16 → ⊥) → at ≤ length s → Does 1 s at deep nodes code (λ k h. group_behind s place deep k h) (Std.Ok (Act.More Open.Group (deep + 1) (record { next = at; nodes = nodes }))) code
  group_opens e l =
      record {
        is = λ from under k h g w.
            opens_acts Machine.group k (omega arith) w (group_query s at tells is place deep k h w.stops.place low e) shows_group (omega (arith, g)) (omega arith) l w.fuel low
            (opened_depth Machine.group under refl) (no_pair Machine.group under refl) tt tt tt refl;
      }

-- A LABEL
module _ (s : List ℕ) (at : ℕ) {nodes : ℕ} (l deep : ℕ) {t : Placed} (tells : Tells (token_at s at) t) {kind : ℕ} (is : kind ≡ kind_of t.token) (code : List ℕ) where
  pub label_not : (kind ≡ 17 → ⊥) → Does 0 s at deep nodes code (λ k h. inside_at s l deep k h) (Std.Err (refusal Reason.NoSuchText t.place)) code
  label_not e = refused_does (λ k h. inside_at s l deep k h) (λ k h p. inside_not s at tells is l deep k h p e)

  pub label_deep : kind ≡ 17 → 100 ≤ deep → Does 0 s at deep nodes code (λ k h. inside_at s l deep k h) (Std.Err (refusal Reason.TooDeep t.place)) code
  label_deep e d = refused_does (λ k h. inside_at s l deep k h) (λ k h p. inside_deep s at tells is l deep k h p e d)

  pub label_opens : kind ≡ 17 → deep < 100 → at ≤ length s → Does 0 s at deep nodes code (λ k h. inside_at s l deep k h) (Std.Ok (Act.More (Open.Inside l) (deep + 1) (record { next = t.next; nodes = nodes }))) code
  label_opens e low inside = record { is = go }
    where
      on : (at < t.next) × (t.next ≤ length s)
      on = token_on s at tells is inside (omega (arith, e))

      go : (from : ℕ) (under : List Frame) (k : ℕ) (h : Here) → from + 0 ≤ at → Wants s at deep nodes code under k h → Acts s from h.nodes under code (inside_at s l deep k h) (Std.Ok (Act.More (Open.Inside l) (deep + 1) (record { next = t.next; nodes = nodes })))
      go from under zero h g w = absurd (omega (arith, w.fuel, on.0, on.1))
      go from under (suc k) h g w =
          opens_acts (Machine.inside l) k (omega arith) w (inside_query s at tells is l deep (suc k) h w.stops.place e low) shows_inside (omega (arith, g, on.0)) (omega (arith, on.0)) on.1 (omega (arith, w.fuel, on.0)) low
          (opened_depth (Machine.inside l) under refl) (no_pair (Machine.inside l) under refl) tt tt tt refl

module _ {s : List ℕ} {at nodes deep : ℕ} (code : List ℕ) where
  pub element_on : {l : Got} {a : Std.Result Act Refusal} → Said.Gives s at (Std.Ok l) (λ n. number_in s 1 65534 (here at n)) → Does 0 s l.next deep nodes code (λ k h. inside_at s l.value deep k h) a code → Does 0 s at deep nodes code (λ k h. element_at s deep k h) a code
  element_on {l} g d = does_later (λ k h. element_at s deep k h) (λ k h. inside_at s l.value deep k h) d (omega (arith, g.onward.0)) g.onward.1 (λ k h p. got_then (number_in s 1 65534) g h p _)

  pub element_not : {x : Refusal} → Said.Gives s at (Std.Err x) (λ n. number_in s 1 65534 (here at n)) → Does 0 s at deep nodes code (λ k h. element_at s deep k h) (Std.Err x) code
  element_not g = refused_does (λ k h. element_at s deep k h) (λ k h p. got_not (number_in s 1 65534) g h p _)

-- FOR AND LET
pub sign_some : (b : Binder) → 0 < sign_of b
sign_some Binder.For = omega arith
sign_some Binder.Let = omega arith

same : {s : List ℕ} {at sign kind : ℕ} {r : Std.Result ℕ Refusal} → sign ≡ kind → Said.Goes s at r (λ n. expect s sign (here at n)) → Said.Goes s at r (λ n. expect s kind (here at n))
same signed g = rw signed at g

module _ {s : List ℕ} {at nodes sign : ℕ} (b : Binder) (v deep : ℕ) (signed : sign ≡ sign_of b) (code : List ℕ) where
  pub sign_not : {x : Refusal} → Said.Goes s at (Std.Err x) (λ n. expect s sign (here at n)) → Does 0 s at deep nodes code (λ k h. sign_behind b s v deep k h) (Std.Err x) code
  sign_not g = refused_does (λ k h. sign_behind b s v deep k h) (λ k h p. went_not (sign_of b) (same signed g) h p _)

  pub sign_opens : {next : ℕ} → Said.Goes s at (Std.Ok next) (λ n. expect s sign (here at n)) → deep < 100 → Does 0 s at deep nodes code (λ k h. sign_behind b s v deep k h) (Std.Ok (Act.More (Open.Source b v (deep + 1)) (deep + 1) (record { next = next; nodes = nodes }))) code
  sign_opens {next} g low =
      let on = g.onward in
      let to : deep + 1 ≡ suc deep = omega arith in
      record {
        is = λ from under k h f w.
            let frame = Machine.source b v (suc k) (suc deep) in
            let shown : Shown h.nodes frame (Open.Source b v (deep + 1)) = rw to shows_source in
            opens_acts frame k (omega arith) w (went_then (sign_of b) (same signed g) h w.stops.place _) shown (omega (arith, f, on.0)) (omega (arith, on.0)) on.1 (omega (arith, w.fuel, on.0)) low
            (opened_depth frame under refl) (no_pair frame under refl) (ap suc w.open_are) tt (omega (arith, w.fuel, on.0)) refl;
      }

module _ {s : List ℕ} {at nodes : ℕ} (b : Binder) (deep place : ℕ) (code : List ℕ) where
  pub bound_deep : 100 ≤ deep → Does 0 s at deep nodes code (λ k h. bound_behind b s place deep k h) (Std.Err (refusal Reason.TooDeep place)) code
  bound_deep d = refused_does (λ k h. bound_behind b s place deep k h) (λ k h p. opening_deep deep place _ d)

  pub bound_not : {x : Refusal} → Said.Gives s at (Std.Err x) (λ n. variable_at s (here at n)) → deep < 100 → Does 0 s at deep nodes code (λ k h. bound_behind b s place deep k h) (Std.Err x) code
  bound_not g low = refused_does (λ k h. bound_behind b s place deep k h) (λ k h p. opening_not deep place _ low ∙ got_not (variable_at s) g h p _)

  pub bound_on : {v : Got} {a : Std.Result Act Refusal} → Said.Gives s at (Std.Ok v) (λ n. variable_at s (here at n)) → deep < 100 → Does 0 s v.next deep nodes code (λ k h. sign_behind b s v.value deep k h) a code → Does 0 s at deep nodes code (λ k h. bound_behind b s place deep k h) a code
  bound_on {v} g low d =
      does_later (λ k h. bound_behind b s place deep k h) (λ k h. sign_behind b s v.value deep k h) d (omega (arith, g.onward.0)) g.onward.1 (λ k h p. opening_not deep place _ low ∙ got_then (variable_at s) g h p _)
