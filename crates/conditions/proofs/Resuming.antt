-- The act behind a condition that is read, by what waited for it.
-- Assumes nothing.
use mathlib.Core.Path.{◌≡◌, refl, sym, ap, ◌∙◌}
use mathlib.Core.List.{List, [], ◌∷◌, ◌++◌, append_assoc}
use Prim.Native.Nat.{ℕ, suc, ◌+◌, ◌-◌, ◌≤◌, min}
use native.Mathlib.Omega.{arith}
use lib.ListN.{length}
use Rattle.meaning.specs.Base.{Out, ◌>>=◌}
use Rattle.meaning.specs.Kinds
use Rattle.meaning.specs.Records.{Node, node}
use Rattle.meaning.specs.Queries.{Cond, or, not}
use Rattle.meaning.specs.Tokens
use Rattle.meaning.specs.Texts.{Here, here, one, expect, cond_at, cond_no, cond_nodes}
use Rattle.steps.specs.Says.{Goes}
use Rattle.refusals.specs.declared.Refusal.{Refusal}
use Rattle.std.specs.Prelude as Std
use Rattle.rows.specs.declared.Part.{Part}
use Rattle.conditions.specs.declared.Waiting.{Waiting}
use Rattle.conditions.specs.declared.Act.{Act}
use Rattle.conditions.specs.Frames.{close_at, Frame, denies, before, behind, cont, under, Waits, Known, Acted, refuses, more, Builds, Turns, Closes, Resumes}
use Rattle.conditions.proofs.Acting.{moves_lower, built_acted, built_moves}

-- `or`, and the second part to be read
module _ {s : List ℕ} {at nodes : ℕ} where
  pub turns_on : {next left : ℕ} → Goes s at (Std.Ok next) (λ n. expect s Tokens.token·or (here at n)) → left ≡ nodes - 1 → nodes ≤ 1025 → Turns s at nodes (Std.Ok (Act.More (Waiting.Second left) (record { next = next; nodes = nodes })))
  unfolding cont under Waits
  turns_on {next} {left} g e h =
      let on = g.onward in
      record {
        moves = (omega (arith, on.0), on.1, h);
        is = λ k code i.
            record {
              is = λ deep m c base q f.
                  let known : m ≤ 1024 → left ≡ cond_no c = λ j. omega (arith, (f j).0, q, e, j) in
                  let enough : length s ≤ k + next = omega (arith, i, on.0) in
                  more (behind c) k (ap (λ (o : Out Here). o >>= λ j. cond_at s (suc k) deep j >>= λ q. close_at s c q) (sym (g.is m))) q enough (left, refl, known) (λ j. (f j).1);
            };
      }

  pub turns_not : {x : Refusal} → Goes s at (Std.Err x) (λ n. expect s Tokens.token·or (here at n)) → Turns s at nodes (Std.Err x)
  unfolding cont
  turns_not g =
      record {
        moves = tt;
        is = λ k code i. record { is = λ deep m c base q f. refuses (ap (λ (o : Out Here). o >>= λ j. cond_at s (suc k) deep j >>= λ q. close_at s c q) (sym (g.is m))) };
      }

-- `)`
or_rows : (base : List Node) {us : List Node} (m left last : ℕ) (p c : Cond) → us ≡ (base ++ cond_nodes p) ++ cond_nodes c → left ≡ cond_no p → last ≡ cond_no c
    → us ++ (node Kinds.condition·or left last 0 ∷ []) ≡ base ++ cond_nodes (or m p c)
unfolding cond_nodes
or_rows base m left last p c e a b =
    ap (λ (l : List Node). l ++ (node Kinds.condition·or left last 0 ∷ [])) e
    ∙ append_assoc (base ++ cond_nodes p) (cond_nodes c) (node Kinds.condition·or left last 0 ∷ [])
    ∙ append_assoc base (cond_nodes p) (cond_nodes c ++ (node Kinds.condition·or left last 0 ∷ []))
    ∙ (λ i. base ++ (cond_nodes p ++ (cond_nodes c ++ (node Kinds.condition·or (a i) (b i) 0 ∷ []))))

module _ {s : List ℕ} {at nodes left : ℕ} {code : List ℕ} where
  pub closes_on : {next last : ℕ} → Goes s at (Std.Ok next) (λ n. expect s Tokens.token·closes (here at n)) → last ≡ nodes - 1 → {r : Part} {u : List ℕ} → Builds next nodes (node Kinds.condition·or left last 0) code r u → Closes s at left code nodes (Std.Ok (Act.Done r)) u
  unfolding cont close_at under
  closes_on {next} {last} g d {r} b =
      let on = g.onward in
      let from : at ≤ next = omega (arith, on.0) in
      record {
        moves = moves_lower s (Std.Ok (Act.Done r)) from (built_moves b s on.1);
        is = λ deep m p c base k q f.
            built_acted b s deep m base (λ n. or n p c) q refl
            (λ l.
            let l' : m ≤ 1024 = omega (arith, l) in
            let no : last ≡ cond_no c = omega (arith, (f l').0, q, d, l) in
            or_rows base m left last p c (f l').1 (k l') no)
            (ap (λ (o : Out Here). o >>= λ l. one s (λ n. or n p c) l) (sym (g.is m)));
      }

  pub closes_not : {x : Refusal} → Goes s at (Std.Err x) (λ n. expect s Tokens.token·closes (here at n)) → Closes s at left code nodes (Std.Err x) code
  unfolding cont close_at
  closes_not g =
      record {
        moves = tt;
        is = λ deep m p c base k q f. refuses (ap (λ (o : Out Here). o >>= λ l. one s (λ n. or n p c) l) (sym (g.is m)));
      }

-- WHAT WAITED, by its word
not_rows : (base : List Node) {us : List Node} (m last : ℕ) (c : Cond) → us ≡ base ++ cond_nodes c → last ≡ cond_no c → us ++ (node Kinds.condition·not last 0 0 ∷ []) ≡ base ++ cond_nodes (not m c)
unfolding cond_nodes
not_rows base m last c e a =
    ap (λ (l : List Node). l ++ (node Kinds.condition·not last 0 0 ∷ [])) e
    ∙ append_assoc base (cond_nodes c) (node Kinds.condition·not last 0 0 ∷ [])
    ∙ (λ i. base ++ (cond_nodes c ++ (node Kinds.condition·not (a i) 0 0 ∷ [])))

module _ {s : List ℕ} {at : ℕ} {w : Waiting} {code : List ℕ} {nodes : ℕ} where
  not_acted : {last : ℕ} → w ≡ Waiting.Not → last ≡ nodes - 1 → {r : Part} {u : List ℕ} → Builds at nodes (node Kinds.condition·not last 0 0) code r u
      → (deep m : ℕ) (f : Frame) (c : Cond) (base : List Node) → Waits s at m w f → min m 1025 ≡ nodes → Known code m c (under base f) → Acted s deep m base u (cont s deep f (c, here at m)) (Std.Ok (Act.Done r))
  unfolding cont under Waits
  not_acted {last} e d b deep m denies c base w q f =
      built_acted b s deep m base (λ n. not n c) q refl
      (λ l.
      let l' : m ≤ 1024 = omega (arith, l) in
      let no : last ≡ cond_no c = omega (arith, (f l').0, q, d, l) in
      not_rows base m last c (f l').1 no)
      refl
  not_acted e d b deep m (before k) c base w q f = let no : ⊥ = cc (e, w.0) in absurd no
  not_acted e d b deep m (behind p) c base w q f = let no : ⊥ = cc (e, w.1) in absurd no

  pub resumes_not : {last : ℕ} → w ≡ Waiting.Not → last ≡ nodes - 1 → at ≤ length s → {r : Part} {u : List ℕ} → Builds at nodes (node Kinds.condition·not last 0 0) code r u → Resumes s at w code nodes (Std.Ok (Act.Done r)) u
  resumes_not e d h b = record { moves = built_moves b s h; is = λ deep m f c base w q k. not_acted e d b deep m f c base w q k }

  turn_acted : w ≡ Waiting.First → {r : Std.Result Act Refusal} → Turns s at nodes r
      → (deep m : ℕ) (f : Frame) (c : Cond) (base : List Node) → Waits s at m w f → min m 1025 ≡ nodes → Known code m c (under base f) → Acted s deep m base code (cont s deep f (c, here at m)) r
  unfolding Waits
  turn_acted e t deep m denies c base w q f = let no : ⊥ = cc (e, w) in absurd no
  turn_acted e t deep m (before k) c base w q f = (t.is k code w.1).is deep m c base q f
  turn_acted e t deep m (behind p) c base w q f = let no : ⊥ = cc (e, w.1) in absurd no

  pub resumes_turn : w ≡ Waiting.First → {r : Std.Result Act Refusal} → Turns s at nodes r → Resumes s at w code nodes r code
  resumes_turn e t = record { moves = t.moves; is = λ deep m f c base w q k. turn_acted e t deep m f c base w q k }

  close_acted : {left : ℕ} → w ≡ Waiting.Second left → {r : Std.Result Act Refusal} {u : List ℕ} → Closes s at left code nodes r u
      → (deep m : ℕ) (f : Frame) (c : Cond) (base : List Node) → Waits s at m w f → min m 1025 ≡ nodes → Known code m c (under base f) → Acted s deep m base u (cont s deep f (c, here at m)) r
  unfolding Waits
  close_acted e t deep m denies c base w q f = let no : ⊥ = cc (e, w) in absurd no
  close_acted e t deep m (before k) c base w q f = let no : ⊥ = cc (e, w.0) in absurd no
  close_acted {left} e t deep m (behind p) c base w q f = let same : left ≡ w.0 = cc (e, w.1) in t.is deep m p c base (λ l. same ∙ w.2 l) q f

  pub resumes_close : {left : ℕ} → w ≡ Waiting.Second left → {r : Std.Result Act Refusal} {u : List ℕ} → Closes s at left code nodes r u → Resumes s at w code nodes r u
  resumes_close e t = record { moves = t.moves; is = λ deep m f c base w q k. close_acted e t deep m f c base w q k }
