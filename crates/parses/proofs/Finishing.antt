-- Behind the items: the end of the text, 5, and the section of the query that was parsed.
-- Assumes nothing.
use mathlib.Core.Path.{◌≡◌, refl, sym, ap, subst, ◌∙◌}
use mathlib.Core.List.{List}
use Prim.Native.Nat.{ℕ, ◌≤◌, ◌<◌, min}
use native.Mathlib.Omega.{arith}
use lib.ListN.{length}
use borrow.Author.Tests.{eq-eqb, ne_eqb, le-leb, lt-leb}
use Rattle.meaning.specs.Base.{Out, ◌>>=◌, zeros}
use Rattle.meaning.specs.Queries.{Query}
use Rattle.meaning.specs.Tokens.{token_at}
use Rattle.meaning.specs.Texts.{Here, Read, expect, parse, query_nodes, section, fitted, parse_text}
use Rattle.words.specs.Tables.{code_of}
use Rattle.tokens.specs.declared.Placed.{Placed}
use Rattle.tokens.specs.Says.{kind_of, Tells}
use Rattle.rows.specs.declared.Part.{Part}
use Rattle.items.proofs.Outs.{at_here}
use Rattle.refusals.specs.declared.Refusal.{Refusal}
use Rattle.refusals.specs.declared.Reason.{Reason}
use Rattle.std.specs.Prelude as Std
use Rattle.steps.proofs.Expecting.{refusal}
use Rattle.parses.specs.Says as Says
use Rattle.parses.specs.Says.{items_of, Items, ending, Ended, Finishes, Parses, Left, Settles}

-- THE END OF THE TEXT
module _ (s : List ℕ) (at : ℕ) {t : Placed} (tells : Tells (token_at s at) t) {kind : ℕ} (is : kind ≡ kind_of t.token) {nodes : ℕ} where
  pub not_end : (kind ≡ 0 → ⊥) → Finishes s at nodes (Std.Err (refusal Reason.NoSuchText t.place))
  unfolding expect
  not_end e =
      record {
        is = λ q h stops. Says.refuses (at_here (λ (i : Here). ending s (q, i)) stops.place ∙ rw (ne_eqb (token_at s at).token.kind 0 (λ z. e (is ∙ tells.token.kind ∙ z)), tells.place) refl);
      }

  pub over_full : kind ≡ 0 → 1024 < nodes → Finishes s at nodes (Std.Err (refusal Reason.TooMany 0))
  unfolding expect
  over_full e l =
      record {
        is = λ q h stops.
            Says.refuses (at_here (λ (i : Here). ending s (q, i)) stops.place ∙ rw (eq-eqb (token_at s at).token.kind 0 (sym tells.token.kind ∙ sym is ∙ e), lt-leb h.nodes 1024 (omega (arith, l, stops.count))) refl);
      }

  pub at_end : kind ≡ 0 → nodes ≤ 1024 → Finishes s at nodes (Std.Ok nodes)
  unfolding expect
  at_end e l =
      record {
        is = λ q h stops.
            Says.ends (at_here (λ (i : Here). ending s (q, i)) stops.place ∙ rw (eq-eqb (token_at s at).token.kind 0 (sym tells.token.kind ∙ sym is ∙ e), le-leb h.nodes 1024 (omega (arith, l, stops.count))) refl) l;
      }

-- THE QUERY OF A TEXT
parse_is : (s : List ℕ) → parse s ≡ (items_of s >>= λ q. ending s q)
unfolding parse
parse_is s = refl

items_inside : {s code : List ℕ} {o : Read Query} {p : Part} → Items s code o (Std.Ok p) → p.next ≤ length s
items_inside (Says.makes q h y stops rows) = stops.inside

pub made_inside : {s code : List ℕ} {p : Part} → Items s code (items_of s) (Std.Ok p) → p.next ≤ length s
made_inside i = items_inside i

items_not : {s code u : List ℕ} {o : Read Query} {e : Refusal} → Items s code o (Std.Err e) → Parses (o >>= λ q. ending s q) u (Std.Err e)
items_not {s} (Says.refuses y) = Says.refuses (ap (λ (x : Read Query). x >>= λ q. ending s q) y)

pub parse_not : {s code : List ℕ} {e : Refusal} → Items s code (items_of s) (Std.Err e) → Parses (parse s) code (Std.Err e)
parse_not {s} i = rw (parse_is s) (items_not i)

ended_parses : {code : List ℕ} {o : Out Query} {q : Query} (h : Here) {nodes : ℕ} {r : Std.Result ℕ Refusal} → min h.nodes 1025 ≡ nodes → (h.nodes ≤ 1024 → code_of code h.nodes ≡ query_nodes q) → Ended o q nodes r → Parses o code r
ended_parses h count rows (Says.refuses y) = Says.refuses y
ended_parses {code} {q = q} h {nodes} count rows (Says.ends y few) =
    let z : h.nodes ≡ nodes = omega (arith, count, few) in
    Says.parses q y few (subst (λ (n : ℕ). code_of code n ≡ query_nodes q) z (rows (omega (arith, z, few))))

items_on : {s code : List ℕ} {o : Read Query} {p : Part} {r : Std.Result ℕ Refusal} → Items s code o (Std.Ok p) → Finishes s p.next p.nodes r → Parses (o >>= λ q. ending s q) code r
items_on {s} {code} {r = r} (Says.makes q h y stops rows) f = subst (λ (x : Read Query). Parses (x >>= λ q. ending s q) code r) (sym y) (ended_parses h stops.count rows (f.is q h stops))

pub parse_on : {s code : List ℕ} {p : Part} {r : Std.Result ℕ Refusal} → Items s code (items_of s) (Std.Ok p) → Finishes s p.next p.nodes r → Parses (parse s) code r
parse_on {s} i f = rw (parse_is s) (items_on i f)

pub parse_few : {o : Out Query} {code : List ℕ} {r : Std.Result ℕ Refusal} → Parses o code r → Std.IfOk r (λ (n : ℕ). n ≤ 1024)
parse_few (Says.refuses y) = tt
parse_few (Says.parses q y few rows) = few

-- ITS SECTION
settled_not : {o : Out Query} {code buffer : List ℕ} {room : ℕ} {e : Refusal} → buffer ≡ zeros room → Parses o code (Std.Err e) → Left room (Std.Err e) buffer (o >>= λ q. fitted room (section q))
settled_not clear (Says.refuses y) = rw y (record { answer = refl; bytes = clear })

pub settles_not : {code buffer : List ℕ} {room : ℕ} {e : Refusal} → buffer ≡ zeros room → Settles (Std.Err e) code room (Std.Err e) buffer
settles_not clear = record { is = λ o p. settled_not clear p }

-- THE WHOLE
pub parsed_left : (s : List ℕ) {code buffer : List ℕ} {parsed : Std.Result ℕ Refusal} {room : ℕ} {r : Std.Result ℕ Refusal} → Parses (parse s) code parsed → Settles parsed code room r buffer → Left room r buffer (parse_text room s)
unfolding parse_text
parsed_left s p x = x.is (parse s) p
