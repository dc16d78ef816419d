-- Each item of the grammar, by its first token: what the definition reads there, and what is done.
-- Assumes nothing.
use mathlib.Core.Path.{◌≡◌, refl, sym, ap, ◌∙◌}
use mathlib.Core.Bool.{true}
use mathlib.Core.List.{List, [], ◌∷◌}
use Prim.Native.Nat.{ℕ, suc, ◌≤◌, ◌<◌}
use native.Mathlib.Omega.{arith}
use lib.ListN.{length}
use borrow.Author.Tests.{eq-eqb, ne_eqb, lt-ltb, le-ltb}
use Rattle.meaning.specs.Base.{Out, ok, refused, ◌>>=◌, find}
use Rattle.meaning.specs.Records.{Node, node}
use Rattle.meaning.specs.Queries.{nothing, text, variable}
use Rattle.meaning.specs.Tokens.{token_at}
use Rattle.meaning.specs.Texts.{Here, here, expect, number_in, opened, test_at, step_at, group_at, query_at, query_no, query_nodes}
use Rattle.tokens.specs.declared.Placed.{Placed}
use Rattle.tokens.specs.Says.{kind_of, Tells}
use Rattle.steps.specs.declared.Got.{Got}
use Rattle.steps.specs.Says as Said
use Rattle.steps.proofs.Expecting.{token_onward}
use Rattle.std.specs.Prelude as Std
use Rattle.refusals.specs.declared.Refusal.{Refusal}
use Rattle.items.specs.declared.Axis.{Axis}
use Rattle.items.specs.declared.Act.{Act}
use Rattle.items.specs.Machine as Machine
use Rattle.items.specs.Machine.{Frame, item_at, cont, rows_of, opens, depth, pairs}
use Rattle.items.specs.Says.{Emitted, Does, opening, text_behind, step_kind, step_of, test_behind, group_behind, inside_at}
use Rattle.items.proofs.Outs.{at_here, got_then, got_not}
use Rattle.items.proofs.Doing.{refused_does, leaf_does}

-- A TEXT
module _ {s : List ℕ} {at nodes : ℕ} {code u : List ℕ} where
  pub text_made : {v : Got} {a : Act} → Said.Gives s at (Std.Ok v) (λ n. number_in s 0 65535 (here at n)) → Emitted nodes (node 33 v.value 0 0) v.next code a u → (deep : ℕ) → Does 0 s at deep nodes code (λ k h. text_behind s h) (Std.Ok a) u
  unfolding query_nodes
  text_made {v} g m deep =
      leaf_does (λ k h. text_behind s h) (λ n. text n v.value) m (λ k h p. got_then (number_in s 0 65535) g h p _) (omega (arith, g.onward.0)) g.onward.1 (λ n. refl) (λ n. refl)

  pub text_not : {x : Refusal} → Said.Gives s at (Std.Err x) (λ n. number_in s 0 65535 (here at n)) → (deep : ℕ) → Does 0 s at deep nodes code (λ k h. text_behind s h) (Std.Err x) u
  text_not g deep = refused_does (λ k h. text_behind s h) (λ k h p. got_not (number_in s 0 65535) g h p _)

-- A STEP
step_no : (b : Axis) (n v t : ℕ) → query_no (step_of b n v t) ≡ n
step_no Axis.Child n v t = refl
step_no Axis.Dos n v t = refl

step_nodes : (b : Axis) (n v t : ℕ) → query_nodes (step_of b n v t) ≡ node (step_kind b) v t 0 ∷ []
unfolding query_nodes
step_nodes Axis.Child n v t = refl
step_nodes Axis.Dos n v t = refl

module _ {s : List ℕ} {at nodes : ℕ} (b : Axis) (v : ℕ) {code u : List ℕ} where
  pub test_made : {t : Got} {x : Node} {a : Act} → Said.Gives s at (Std.Ok t) (λ n. test_at s (here at n)) → x ≡ node (step_kind b) v t.value 0 → Emitted nodes x t.next code a u → (deep : ℕ) → Does 0 s at deep nodes code (λ k h. test_behind b s v h) (Std.Ok a) u
  test_made {t} g q m deep =
      leaf_does (λ k h. test_behind b s v h) (λ n. step_of b n v t.value) m (λ k h p. got_then (test_at s) g h p _) (omega (arith, g.onward.0)) g.onward.1 (λ n. step_no b n v t.value)
      (λ n. step_nodes b n v t.value ∙ ap (λ (y : Node). y ∷ []) (sym q))

  pub test_not : {x : Refusal} → Said.Gives s at (Std.Err x) (λ n. test_at s (here at n)) → (deep : ℕ) → Does 0 s at deep nodes code (λ k h. test_behind b s v h) (Std.Err x) u
  test_not g deep = refused_does (λ k h. test_behind b s v h) (λ k h p. got_not (test_at s) g h p _)

-- A TOKEN that was looked at: it is not the end
pub token_on : (s : List ℕ) (at : ℕ) {t : Placed} → Tells (token_at s at) t → {kind : ℕ} → kind ≡ kind_of t.token → at ≤ length s → 0 < kind → (at < t.next) × (t.next ≤ length s)
token_on s at tells is l some = token_onward s at tells l (λ e. omega (arith, is, some, e))

module _ (s : List ℕ) (at : ℕ) {t : Placed} (tells : Tells (token_at s at) t) {kind : ℕ} (is : kind ≡ kind_of t.token) where
  seen : {n : ℕ} → kind ≡ n → (token_at s at).token.kind ≡ n
  seen e = sym tells.token.kind ∙ sym is ∙ e

  unseen : {n : ℕ} → (kind ≡ n → ⊥) → (token_at s at).token.kind ≡ n → ⊥
  unseen f e = f (is ∙ tells.token.kind ∙ e)

  -- behind a variable
  pub step_child : (v : ℕ) (h : Here) → h.at ≡ at → kind ≡ 22 → step_at s v h ≡ test_behind Axis.Child s v (here t.next h.nodes)
  unfolding step_at find
  step_child v h p e = at_here (step_at s v) p ∙ rw (seen e, tells.next) refl

  pub step_dos : (v : ℕ) (h : Here) → h.at ≡ at → kind ≡ 23 → step_at s v h ≡ test_behind Axis.Dos s v (here t.next h.nodes)
  unfolding step_at find
  step_dos v h p e = at_here (step_at s v) p ∙ rw (seen e, tells.next) refl

  pub step_none : (v : ℕ) (h : Here) → h.at ≡ at → (kind ≡ 22 → ⊥) → (kind ≡ 23 → ⊥) → step_at s v h ≡ ok (variable h.nodes v, here at (suc h.nodes))
  unfolding step_at find
  step_none v h p a b = at_here (step_at s v) p ∙ simp (step_at, find, ne_eqb (token_at s at).token.kind 22 (unseen a), ne_eqb (token_at s at).token.kind 23 (unseen b))

  -- behind a parenthesis
  pub group_nothing : (place deep k : ℕ) (h : Here) → h.at ≡ at → deep < 100 → kind ≡ 16 → group_behind s place deep k h ≡ ok (nothing h.nodes, here t.next (suc h.nodes))
  unfolding group_at find
  group_nothing place deep k h p l e = at_here (group_behind s place deep k) p ∙ rw (lt-ltb deep 100 l, seen e, tells.next) refl

  pub group_query : (place deep k : ℕ) (h : Here) → h.at ≡ at → deep < 100 → (kind ≡ 16 → ⊥) → group_behind s place deep k h ≡ (query_at s (suc k) true (suc deep) (here at h.nodes) >>= λ p. cont s Machine.group p)
  unfolding group_at find cont
  group_query place deep k h p l e = at_here (group_behind s place deep k) p ∙ rw (lt-ltb deep 100 l) (simp (group_at, find, ne_eqb (token_at s at).token.kind 16 (unseen e)))

  -- behind a label
  pub inside_not : (l deep k : ℕ) (h : Here) → h.at ≡ at → (kind ≡ 17 → ⊥) → inside_at s l deep k h ≡ refused 22 t.place
  unfolding expect
  inside_not l deep k h p e = at_here (inside_at s l deep k) p ∙ rw (ne_eqb (token_at s at).token.kind 17 (unseen e), tells.place) refl

  pub inside_deep : (l deep k : ℕ) (h : Here) → h.at ≡ at → kind ≡ 17 → 100 ≤ deep → inside_at s l deep k h ≡ refused 23 t.place
  unfolding expect opened
  inside_deep l deep k h p e d = at_here (inside_at s l deep k) p ∙ rw (eq-eqb (token_at s at).token.kind 17 (seen e), le-ltb deep 100 d, tells.place) refl

  pub inside_query : (l deep k : ℕ) (h : Here) → h.at ≡ at → kind ≡ 17 → deep < 100 → inside_at s l deep k h ≡ (query_at s k true (suc deep) (here t.next h.nodes) >>= λ q. cont s (Machine.inside l) q)
  unfolding expect opened
  inside_query l deep k h p e d = at_here (inside_at s l deep k) p ∙ rw (eq-eqb (token_at s at).token.kind 17 (seen e), lt-ltb deep 100 d, tells.next) refl

-- DEEP ENOUGH
pub opening_deep : {A : Type 0} (deep place : ℕ) (o : Out A) → 100 ≤ deep → opening deep place o ≡ refused 23 place
opening_deep deep place o d = rw (le-ltb deep 100 d) refl

pub opening_not : {A : Type 0} (deep place : ℕ) (o : Out A) → deep < 100 → opening deep place o ≡ o
opening_not deep place o d = rw (lt-ltb deep 100 d) refl
