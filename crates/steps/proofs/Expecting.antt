-- The token that must come, and a number that must come in its range.
-- Assumes nothing.
use mathlib.Core.Path.{◌≡◌, refl, sym, ap, ◌∙◌}
use mathlib.Core.Logic.{◌≢◌}
use mathlib.Core.Bool.{true, false, ◌&&◌}
use Rattle.std.proofs.lemmas.Bool.Decides.{nat_tests}
use mathlib.Core.List.{List}
use Prim.Native.Nat.{ℕ, ◌≤◌, ◌<◌, min}
use native.Mathlib.Omega.{arith}
use lib.Dec.{eqb, leb}
use lib.ListN.{length}
use borrow.Author.Tests.{eq-eqb, ne_eqb, le-leb}
use Rattle.meaning.specs.Base.{Out, ok, refused, ◌>>=◌}
use Rattle.meaning.specs.Tokens
use Rattle.meaning.specs.Tokens.{token_at}
use Rattle.meaning.specs.Texts.{Here, here, expect, number_in, variable_at, test_at}
use Rattle.tokens.specs.declared.Token.{Token}
use Rattle.tokens.specs.declared.Placed.{Placed}
use Rattle.tokens.specs.Says.{kind_of, value_of, Tells}
use Rattle.refusals.specs.declared.Reason.{Reason}
use Rattle.refusals.specs.declared.Refusal.{Refusal}
use Rattle.std.specs.Prelude as Std
use Rattle.tokens.proofs.Inside.{token_within}
use Rattle.steps.specs.declared.Got.{Got}
use Rattle.steps.proofs.Choosing.{choose_first, choose_later, choose_none}
use Rattle.steps.specs.Says.{Onward, Goes, Gives}

-- a refusal of a call
abbrev pub refusal : Reason → ℕ → Refusal
refusal k p = record { reason = k; place = p }

-- a number that is told apart below 65,536 alone is outside a range where the text's is
out_of : (low high n v : ℕ) → n ≡ min v 65536 → high ≤ 65535 → (leb low n && leb n high) ≡ false → (leb low v && leb v high) ≡ false
out_of low high n v e m h = grind (arith, nat_tests)

module _ (s : List ℕ) (at : ℕ) {r : Placed} (t : Tells (token_at s at) r) where
  -- behind a token that is not the end the text goes on
  pub token_onward : at ≤ length s → kind_of r.token ≢ 0 → Onward s at r.next
  token_onward h k =
      let w = token_within s at h in
      let b = w.byte (λ p. k (t.token.kind ∙ p)) in
      (omega (arith, t.next, w.from, b), omega (arith, t.next, w.to))

  -- THE TOKEN that must come
  pub expect_not : (kind : ℕ) {k : ℕ} → k ≡ kind_of r.token → k ≢ kind → Goes s at (Std.Err (refusal Reason.NoSuchText r.place)) (λ n. expect s kind (here at n))
  unfolding expect
  expect_not kind e n =
      record {
        is = λ m. rw (ne_eqb (token_at s at).token.kind kind (λ p. n (e ∙ t.token.kind ∙ p))) (ap (refused 22) t.place);
        onward = tt;
      }

  pub expect_is : (kind : ℕ) {k : ℕ} → k ≡ kind_of r.token → k ≡ kind → at ≤ length s → 0 < kind → Goes s at (Std.Ok r.next) (λ n. expect s kind (here at n))
  unfolding expect
  expect_is kind e p h z =
      record {
        is = λ m. rw (eq-eqb (token_at s at).token.kind kind (sym t.token.kind ∙ sym e ∙ p), t.next) refl;
        onward = token_onward h (λ q. omega (arith, e, p, q, z));
      }

  -- A NUMBER that must come
  pub number_not : (low high : ℕ) → kind_of r.token ≢ Tokens.token·number → Gives s at (Std.Err (refusal Reason.NoSuchText r.place)) (λ n. number_in s low high (here at n))
  unfolding number_in
  number_not low high h =
      record {
        is = λ m. rw (ne_eqb (token_at s at).token.kind Tokens.token·number (λ p. h (t.token.kind ∙ p))) (ap (refused 22) t.place);
        onward = tt;
      }

  module _ (low high : ℕ) (order : low ≤ high) (most : high ≤ 65535) {n : ℕ} (e : r.token ≡ Token.Number n) where
    is_number : eqb (token_at s at).token.kind Tokens.token·number ≡ true
    is_number = eq-eqb (token_at s at).token.kind Tokens.token·number (sym t.token.kind ∙ ap kind_of e)

    value_is : n ≡ min (token_at s at).token.value 65536
    value_is = ap value_of (sym e) ∙ t.token.value

    pub number_out : (leb low n && leb n high) ≡ false → Gives s at (Std.Err (refusal Reason.Unfit r.place)) (λ m. number_in s low high (here at m))
    unfolding number_in
    number_out h = record { is = λ m. rw (is_number, out_of low high n (token_at s at).token.value value_is most h) (ap (refused 6) t.place); onward = tt }

    pub number_is : low ≤ n → n ≤ high → at ≤ length s → Gives s at (Std.Ok (record { value = n; next = r.next })) (λ m. number_in s low high (here at m))
    unfolding number_in
    number_is l h inside =
        let v : n ≡ (token_at s at).token.value = omega (arith, value_is) in
        record {
          is = λ m. rw (is_number, le-leb low (token_at s at).token.value (omega (arith, v)), le-leb (token_at s at).token.value high (omega (arith, v)), v, t.next) refl;
          onward = token_onward inside (λ q. omega (arith, q, ap kind_of e));
        }

  -- A TEST: a word for it, or a number
  module _ {k : ℕ} (e : k ≡ kind_of r.token) where
    kind_is : k ≡ (token_at s at).token.kind
    kind_is = e ∙ t.token.kind

    pub test_node : k ≡ Tokens.token·node → at ≤ length s → Gives s at (Std.Ok (record { value = 0; next = r.next })) (λ n. test_at s (here at n))
    unfolding test_at
    test_node p h =
        record {
          is = λ n. ap (λ (i : ℕ). ok (0, here i n)) t.next ∙ sym (choose_first _ _ _ _ _ (sym kind_is ∙ p));
          onward = token_onward h (λ q. omega (arith, e, p, q));
        }

    pub test_text : k ≡ Tokens.token·text → at ≤ length s → Gives s at (Std.Ok (record { value = 65535; next = r.next })) (λ n. test_at s (here at n))
    unfolding test_at
    test_text p h =
        record {
          is = λ n. ap (λ (i : ℕ). ok (65535, here i n)) t.next ∙ sym (choose_later _ _ _ _ _ (λ q. omega (arith, kind_is, p, q)) ∙ choose_first _ _ _ _ _ (sym kind_is ∙ p));
          onward = token_onward h (λ q. omega (arith, e, p, q));
        }

    pub test_number : k ≢ Tokens.token·node → k ≢ Tokens.token·text → {g : Std.Result Got Refusal} → Gives s at g (λ n. number_in s 1 65534 (here at n)) → Gives s at g (λ n. test_at s (here at n))
    unfolding test_at
    test_number p q g =
        record {
          is = λ n. g.is n ∙ sym (choose_later _ _ _ _ _ (λ x. p (kind_is ∙ x)) ∙ choose_later _ _ _ _ _ (λ x. q (kind_is ∙ x)) ∙ choose_none _ _);
          onward = g.onward;
        }

-- ONE STEP AFTER ANOTHER
further : (s : List ℕ) (at next : ℕ) → at ≤ next → (r : Std.Result Got Refusal) → Std.IfOk r (λ (g : Got). Onward s next g.next) → Std.IfOk r (λ (g : Got). Onward s at g.next)
further s at next h (Std.Ok g) o = (omega (arith, h, o.0), o.1)
further s at next h (Std.Err e) o = tt

pub variable_not : {s : List ℕ} {at : ℕ} {e : Refusal} → Goes s at (Std.Err e) (λ n. expect s Tokens.token·dollar (here at n)) → Gives s at (Std.Err e) (λ n. variable_at s (here at n))
unfolding variable_at
variable_not {s} g = record { is = λ n. ap (λ (o : Out Here). o >>= λ i. number_in s 0 63 i) (g.is n); onward = tt }

pub variable_on : {s : List ℕ} {at next : ℕ} → Goes s at (Std.Ok next) (λ n. expect s Tokens.token·dollar (here at n)) → {r : Std.Result Got Refusal} → Gives s next r (λ n. number_in s 0 63 (here next n)) → Gives s at r (λ n. variable_at s (here at n))
unfolding variable_at
variable_on {s} {at} {next} g {r} h = record { is = λ n. h.is n ∙ ap (λ (o : Out Here). o >>= λ i. number_in s 0 63 i) (g.is n); onward = further s at next (omega (arith, g.onward.0)) r h.onward }
