-- An item that is to be read, by its first token.
-- Assumes nothing.
use mathlib.Core.Path.{◌≡◌, refl, sym, ap, subst, ◌∙◌}
use mathlib.Core.Bool.{true}
use mathlib.Core.List.{List}
use Prim.Native.Nat.{ℕ, suc, ◌≤◌}
use native.Mathlib.Omega.{arith}
use lib.ListN.{length}
use borrow.Author.Tests.{ne_eqb}
use Rattle.meaning.specs.Base.{refused, ◌>>=◌, find}
use Rattle.meaning.specs.Tokens.{token_at}
use Rattle.meaning.specs.Texts.{Here, here, Read, opened, variable_at, cond_at, group_at, item_by, query_at}
use Rattle.tokens.specs.declared.Placed.{Placed}
use Rattle.tokens.specs.Says.{kind_of, Tells}
use Rattle.std.specs.Prelude as Std
use Rattle.refusals.specs.declared.Refusal.{Refusal}
use Rattle.refusals.specs.declared.Reason.{Reason}
use Rattle.steps.proofs.Expecting.{refusal}
use Rattle.items.specs.declared.Binder.{Binder}
use Rattle.items.specs.declared.Act.{Act}
use Rattle.items.specs.Machine.{item_at, cont}
use Rattle.items.specs.Says.{Acts, Does, opening, text_behind, variable_item, group_behind, element_at, sign_behind, bound_behind, body_behind, when_behind}
use Rattle.items.proofs.Outs.{opened_then, at_here}
use Rattle.items.proofs.Items.{token_on}
use Rattle.items.proofs.Doing.{refused_does, does_later, does_deeper}
use Rattle.meaning.specs.Queries.{Query}

module _ (s : List ℕ) (at : ℕ) {t : Placed} (tells : Tells (token_at s at) t) {kind : ℕ} (is : kind ≡ kind_of t.token) where
  seen : {n : ℕ} → kind ≡ n → (token_at s at).token.kind ≡ n
  seen e = sym tells.token.kind ∙ sym is ∙ e

  unseen : {n : ℕ} → (kind ≡ n → ⊥) → (token_at s at).token.kind ≡ n → ⊥
  unseen f e = f (is ∙ tells.token.kind ∙ e)

  behind : (deep n : ℕ) (F : Here → Read Query) → (opened s deep (here at n) >>= F) ≡ opening deep t.place (F (here t.next n))
  behind deep n F = opened_then s deep (here at n) F ∙ rw (tells.place, tells.next) refl

  item_element : (k deep : ℕ) (h : Here) → kind ≡ 2 → h.at ≡ at → item_at s k deep h ≡ element_at s deep k h
  unfolding item_by find cont
  item_element k deep h e p = rw (ap (λ (a : ℕ). (token_at s a).token.kind) p ∙ seen e) refl

  item_variable : (k deep : ℕ) (h : Here) → kind ≡ 21 → h.at ≡ at → item_at s k deep h ≡ variable_item s h
  unfolding item_by find
  item_variable k deep h e p = rw (ap (λ (a : ℕ). (token_at s a).token.kind) p ∙ seen e) refl

  item_text : (k deep : ℕ) (h : Here) → kind ≡ 20 → h.at ≡ at → item_at s k deep h ≡ text_behind s (here t.next h.nodes)
  unfolding item_by find
  item_text k deep h e p = at_here (item_at s k deep) p ∙ rw (seen e, tells.next) refl

  module _ (k deep : ℕ) (h : Here) (p : h.at ≡ at) where
    for_rest : Here → Read Query
    for_rest i = variable_at s i >>= λ v. sign_behind Binder.For s v.0 deep k v.1

    item_for_lem : kind ≡ 3 → item_at s (suc k) deep h ≡ bound_behind Binder.For s t.place deep k (here t.next h.nodes)
    unfolding item_by find cont for_rest
    item_for_lem e = at_here (item_at s (suc k) deep) p ∙ rw (seen e) (behind deep h.nodes for_rest)

    let_rest : Here → Read Query
    let_rest i = variable_at s i >>= λ v. sign_behind Binder.Let s v.0 deep k v.1

    item_let : kind ≡ 6 → item_at s (suc k) deep h ≡ bound_behind Binder.Let s t.place deep k (here t.next h.nodes)
    unfolding item_by find cont let_rest
    item_let e = at_here (item_at s (suc k) deep) p ∙ rw (seen e) (behind deep h.nodes let_rest)

    when_rest : Here → Read Query
    when_rest i = cond_at s (suc k) (suc deep) i >>= λ c. body_behind s deep k c.0 c.1

    item_when : kind ≡ 7 → item_at s (suc k) deep h ≡ when_behind s t.place deep k (here t.next h.nodes)
    unfolding item_by find cont when_rest
    item_when e = at_here (item_at s (suc k) deep) p ∙ rw (seen e) (behind deep h.nodes when_rest)

    group_rest : Here → Read Query
    group_rest i = group_at s (λ o j. query_at s (suc k) true o j) deep i

    item_group : kind ≡ 15 → item_at s (suc k) deep h ≡ group_behind s t.place deep k (here t.next h.nodes)
    unfolding item_by find group_rest
    item_group e = at_here (item_at s (suc k) deep) p ∙ rw (seen e) (behind deep h.nodes group_rest)

  item_not : (k deep : ℕ) (h : Here) → (kind ≡ 15 → ⊥) → (kind ≡ 20 → ⊥) → (kind ≡ 2 → ⊥) → (kind ≡ 21 → ⊥) → (kind ≡ 3 → ⊥) → (kind ≡ 6 → ⊥) → (kind ≡ 7 → ⊥) → h.at ≡ at → item_at s k deep h ≡ refused 22 t.place
  unfolding item_by find
  item_not k deep h a b c d e f g p =
      at_here (item_at s k deep) p
      ∙ rw tells.place
      (simp (
        item_by,
        find,
        ne_eqb (token_at s at).token.kind 15 (unseen a),
        ne_eqb (token_at s at).token.kind 20 (unseen b),
        ne_eqb (token_at s at).token.kind 2 (unseen c),
        ne_eqb (token_at s at).token.kind 21 (unseen d),
        ne_eqb (token_at s at).token.kind 3 (unseen e),
        ne_eqb (token_at s at).token.kind 6 (unseen f),
        ne_eqb (token_at s at).token.kind 7 (unseen g),
      ))

-- WHAT IS DONE, by the first token
module _ (s : List ℕ) (at : ℕ) {t : Placed} (tells : Tells (token_at s at) t) {kind : ℕ} (is : kind ≡ kind_of t.token) {deep nodes : ℕ} {code u : List ℕ} {r : Std.Result Act Refusal} where
  pub begins_element : kind ≡ 2 → Does 0 s at deep nodes code (λ k h. element_at s deep k h) r u → Does 0 s at deep nodes code (λ k h. item_at s k deep h) r u
  begins_element e d = does_same d (λ k h p. item_element s at tells is k deep h e p)
    where
      does_same : {p : ℕ → Here → Read Query} → Does 0 s at deep nodes code p r u → ((k : ℕ) (h : Here) → h.at ≡ at → item_at s k deep h ≡ p k h) → Does 0 s at deep nodes code (λ k h. item_at s k deep h) r u
      does_same d f = record { is = λ from under k h g w. subst (λ (x : Read Query). Acts s from h.nodes under u x r) (sym (f k h w.stops.place)) (d.is from under k h g w) }

  pub begins_variable : kind ≡ 21 → Does 0 s at deep nodes code (λ k h. variable_item s h) r u → Does 0 s at deep nodes code (λ k h. item_at s k deep h) r u
  begins_variable e d = record { is = λ from under k h g w. subst (λ (x : Read Query). Acts s from h.nodes under u x r) (sym (item_variable s at tells is k deep h e w.stops.place)) (d.is from under k h g w) }

  module _ (inside : at ≤ length s) where
    pub begins_text : kind ≡ 20 → Does 0 s t.next deep nodes code (λ k h. text_behind s h) r u → Does 0 s at deep nodes code (λ k h. item_at s k deep h) r u
    begins_text e d = does_later (λ k h. item_at s k deep h) (λ k h. text_behind s h) d (omega (arith, (token_on s at tells is inside (omega (arith, e))).0)) (token_on s at tells is inside (omega (arith, e))).1 (λ k h p. item_text s at tells is k deep h e p)

    pub begins_for : kind ≡ 3 → Does 0 s t.next deep nodes code (λ k h. bound_behind Binder.For s t.place deep k h) r u → Does 0 s at deep nodes code (λ k h. item_at s k deep h) r u
    begins_for e d = does_deeper (λ k h. item_at s k deep h) (λ k h. bound_behind Binder.For s t.place deep k h) d (omega (arith, (token_on s at tells is inside (omega (arith, e))).0)) (token_on s at tells is inside (omega (arith, e))).0 (token_on s at tells is inside (omega (arith, e))).1 (λ k h p. item_for_lem s at tells is k deep h p e)

    pub begins_let : kind ≡ 6 → Does 0 s t.next deep nodes code (λ k h. bound_behind Binder.Let s t.place deep k h) r u → Does 0 s at deep nodes code (λ k h. item_at s k deep h) r u
    begins_let e d = does_deeper (λ k h. item_at s k deep h) (λ k h. bound_behind Binder.Let s t.place deep k h) d (omega (arith, (token_on s at tells is inside (omega (arith, e))).0)) (token_on s at tells is inside (omega (arith, e))).0 (token_on s at tells is inside (omega (arith, e))).1 (λ k h p. item_let s at tells is k deep h p e)

    pub begins_when : kind ≡ 7 → Does 0 s t.next deep nodes code (λ k h. when_behind s t.place deep k h) r u → Does 0 s at deep nodes code (λ k h. item_at s k deep h) r u
    begins_when e d = does_deeper (λ k h. item_at s k deep h) (λ k h. when_behind s t.place deep k h) d (omega (arith, (token_on s at tells is inside (omega (arith, e))).0)) (token_on s at tells is inside (omega (arith, e))).0 (token_on s at tells is inside (omega (arith, e))).1 (λ k h p. item_when s at tells is k deep h p e)

    pub begins_group : kind ≡ 15 → Does 1 s t.next deep nodes code (λ k h. group_behind s t.place deep k h) r u → Does 0 s at deep nodes code (λ k h. item_at s k deep h) r u
    begins_group e d = does_deeper (λ k h. item_at s k deep h) (λ k h. group_behind s t.place deep k h) d (omega (arith, (token_on s at tells is inside (omega (arith, e))).0)) (token_on s at tells is inside (omega (arith, e))).0 (token_on s at tells is inside (omega (arith, e))).1 (λ k h p. item_group s at tells is k deep h p e)

pub begins_not : (s : List ℕ) (at : ℕ) {t : Placed} → Tells (token_at s at) t → {kind : ℕ} → kind ≡ kind_of t.token → {deep nodes : ℕ} {code : List ℕ} → (kind ≡ 15 → ⊥) → (kind ≡ 20 → ⊥) → (kind ≡ 2 → ⊥) → (kind ≡ 21 → ⊥) → (kind ≡ 3 → ⊥) → (kind ≡ 6 → ⊥) → (kind ≡ 7 → ⊥)
    → Does 0 s at deep nodes code (λ k h. item_at s k deep h) (Std.Err (refusal Reason.NoSuchText t.place)) code
begins_not s at tells is {deep} a b c d e f g = refused_does (λ k h. item_at s k deep h) (λ k h p. item_not s at tells is k deep h a b c d e f g p)
