-- The act at a condition's first token, by that token.
-- Assumes nothing.
use mathlib.Core.Path.{◌≡◌, refl, sym, ap, subst, ◌∙◌}
use mathlib.Core.Logic.{◌≢◌}
use mathlib.Core.List.{List, ◌∷◌}
use Prim.Native.Nat.{ℕ, zero, suc, ◌+◌, ◌≤◌, ◌<◌, min}
use native.Mathlib.Omega.{arith}
use lib.ListN.{length}
use borrow.Author.Tests.{lt-ltb, le-ltb}
use Rattle.meaning.specs.Base.{Out, ok, refused, ◌>>=◌}
use Rattle.meaning.specs.Kinds
use Rattle.meaning.specs.Records.{Node, node}
use Rattle.meaning.specs.Queries.{choose, Cond, always, never}
use Rattle.meaning.specs.Tokens
use Rattle.meaning.specs.Tokens.{token_at}
use Rattle.meaning.specs.Texts.{Here, here, Read, one, opened, cond_by, cond_at, cond_nodes}
use Rattle.words.specs.Tables.{code_of}
use Rattle.tokens.specs.declared.Placed.{Placed}
use Rattle.tokens.specs.Says.{kind_of, Tells}
use Rattle.steps.specs.Says.{Onward}
use Rattle.steps.proofs.Choosing.{choose_first, choose_later, choose_none}
use Rattle.steps.proofs.Expecting.{refusal, token_onward}
use Rattle.refusals.specs.declared.Reason.{Reason}
use Rattle.refusals.specs.declared.Refusal.{Refusal}
use Rattle.std.specs.Prelude as Std
use Rattle.rows.specs.declared.Part.{Part}
use Rattle.conditions.specs.declared.Act.{Act}
use Rattle.conditions.specs.declared.Waiting.{Waiting}
use Rattle.conditions.specs.Frames.{equal_with, equal_to, equal_at, empty_at, close_at, Frame, denies, before, cont, under, Waits, Acted, refuses, more, Moves, Room, Builds, Leaf, Opens, full, room, Begins}
use Rattle.conditions.proofs.Acting.{moves_lower, leaf_built}

module _ (s : List ℕ) (at : ℕ) {t : Placed} (tk : Tells (token_at s at) t) (inside : at ≤ length s) {k : ℕ} (e : k ≡ kind_of t.token) where
  kind_is : k ≡ (token_at s at).token.kind
  kind_is = e ∙ tk.token.kind

  pub next_inside : k ≢ 0 → Onward s at t.next
  next_inside h = token_onward s at tk inside (λ p. h (e ∙ p))

  -- the row of a choice by the token's kind, past those that have another number
  hit : {i : ℕ} {A : Type 0} (f : Unit {0} → A) (rows : List (ℕ × (Unit {0} → A))) (d : A) → k ≡ i → choose (token_at s at).token.kind ((i, f) ∷ rows) d ≡ f tt
  hit f rows d p = choose_first _ _ f rows d (sym kind_is ∙ p)

  miss : {i : ℕ} {A : Type 0} (f : Unit {0} → A) (rows : List (ℕ × (Unit {0} → A))) (d : A) → k ≢ i → choose (token_at s at).token.kind ((i, f) ∷ rows) d ≡ choose (token_at s at).token.kind rows d
  miss f rows d n = choose_later _ _ f rows d (λ q. n (kind_is ∙ q))

  -- NO CONDITION INSIDE
  leaf_begins : {deep low next nodes : ℕ} {code : List ℕ} (o : Here → Read Cond) → at < low → ((j n : ℕ) → cond_at s (suc j) deep (here at n) ≡ o (here next n))
      → {r : Std.Result Act Refusal} {u : List ℕ} → Leaf s low next code nodes o r u → Begins s at deep code nodes r u
  leaf_begins {deep} o h is {r} {u} l =
      record {
        moves = moves_lower s r h l.moves;
        room = l.room deep;
        is = λ j n base _ q f. subst (λ (x : Read Cond). Acted s (suc deep) n base u x r) (sym (is j n)) (l.is (suc deep) n base q f);
      }

  pub begins_true : {deep nodes : ℕ} {code : List ℕ} → k ≡ Tokens.token·true → {r : Part} {u : List ℕ} → Builds t.next nodes (node Kinds.condition·true 0 0 0) code r u → Begins s at deep code nodes (Std.Ok (Act.Done r)) u
  unfolding cond_at cond_by cond_nodes
  begins_true p b =
      let on = next_inside (λ z. omega (arith, p, z)) in
      leaf_begins (one s always) on.0
      (λ j n. hit _ _ _ p ∙ ap (λ (i : ℕ). one s always (here i n)) (sym tk.next))
      (leaf_built b s always on.1 (λ n. refl) (λ n. refl))

  pub begins_false : {deep nodes : ℕ} {code : List ℕ} → k ≡ Tokens.token·false → {r : Part} {u : List ℕ} → Builds t.next nodes (node Kinds.condition·false 0 0 0) code r u → Begins s at deep code nodes (Std.Ok (Act.Done r)) u
  unfolding cond_at cond_by cond_nodes
  begins_false p b =
      let on = next_inside (λ z. omega (arith, p, z)) in
      leaf_begins (one s never) on.0
      (λ j n. miss _ _ _ (λ q. omega (arith, p, q)) ∙ hit _ _ _ p ∙ ap (λ (i : ℕ). one s never (here i n)) (sym tk.next))
      (leaf_built b s never on.1 (λ n. refl) (λ n. refl))

  pub begins_equal : {deep nodes : ℕ} {code : List ℕ} → k ≡ Tokens.token·dollar → {r : Std.Result Act Refusal} {u : List ℕ} → Leaf s (suc at) at code nodes (equal_at s) r u → Begins s at deep code nodes r u
  unfolding cond_at cond_by equal_at equal_to equal_with
  begins_equal p l =
      leaf_begins (equal_at s) (omega arith)
      (λ j n. miss _ _ _ (λ q. omega (arith, p, q)) ∙ miss _ _ _ (λ q. omega (arith, p, q)) ∙ hit _ _ _ p)
      l

  pub begins_empty : {deep nodes : ℕ} {code : List ℕ} → k ≡ Tokens.token·empty → {r : Std.Result Act Refusal} {u : List ℕ} → Leaf s t.next t.next code nodes (empty_at s) r u → Begins s at deep code nodes r u
  unfolding cond_at cond_by empty_at
  begins_empty p l =
      leaf_begins (empty_at s) (next_inside (λ z. omega (arith, p, z))).0
      (λ j n. miss _ _ _ (λ q. omega (arith, p, q)) ∙ miss _ _ _ (λ q. omega (arith, p, q)) ∙ miss _ _ _ (λ q. omega (arith, p, q)) ∙ hit _ _ _ p ∙ ap (λ (i : ℕ). empty_at s (here i n)) (sym tk.next))
      l

  -- NO CONDITION
  pub begins_none : {deep nodes : ℕ} {code : List ℕ} → k ≢ Tokens.token·true → k ≢ Tokens.token·false → k ≢ Tokens.token·dollar → k ≢ Tokens.token·empty → k ≢ Tokens.token·not → k ≢ Tokens.token·opens
      → Begins s at deep code nodes (Std.Err (refusal Reason.NoSuchText t.place)) code
  unfolding cond_at cond_by
  begins_none a b c d f g =
      record {
        moves = tt;
        room = λ h. tt;
        is = λ j n base _ q h.
            refuses
            (miss _ _ _ a
            ∙ miss _ _ _ b
            ∙ miss _ _ _ c
            ∙ miss _ _ _ d
            ∙ miss _ _ _ f
            ∙ miss _ _ _ g
            ∙ choose_none _ _
            ∙ ap (refused 22) (sym tk.place));
      }

  -- ONE MORE that is open
  opened_room : (deep n : ℕ) → deep < 100 → opened s deep (here at n) ≡ ok (here t.next n)
  unfolding opened
  opened_room deep n h = rw (lt-ltb deep 100 h, tk.next) refl

  opened_full : (deep n : ℕ) → 100 ≤ deep → opened s deep (here at n) ≡ refused 23 t.place
  unfolding opened
  opened_full deep n h = rw (le-ltb deep 100 h, tk.place) refl

  module _ (w : Waiting) (f : ℕ → Frame) (waits : (j n : ℕ) → length s ≤ j + t.next → Waits s t.next n w (f j)) (bare : (base : List Node) (j : ℕ) → under base (f j) ≡ base) (deep : ℕ)
      (is : (j n : ℕ) → cond_at s (suc (suc j)) deep (here at n) ≡ (opened s deep (here at n) >>= λ i. cond_at s (suc j) (suc deep) i >>= cont s (suc deep) (f j))) where
    abbrev inner : ℕ → Out Here → Read Cond
    inner j o = o >>= λ i. cond_at s (suc j) (suc deep) i >>= cont s (suc deep) (f j)

    opened_acted : (j n : ℕ) (base : List Node) {nodes : ℕ} {code : List ℕ} → Onward s at t.next → length s ≤ suc j + at → min n 1025 ≡ nodes → (n ≤ 1024 → code_of code n ≡ base) → {r : Std.Result Act Refusal} → Opens deep t.place t.next w nodes r
        → Acted s (suc deep) n base code (cond_at s (suc (suc j)) deep (here at n)) r
    opened_acted j n base on l q g (full h) = refuses (is j n ∙ ap (inner j) (opened_full deep n h))
    opened_acted j n base on l q g (room h) =
        let m : length s ≤ j + t.next = omega (arith, l, on.0) in
        more (f j) j (is j n ∙ ap (inner j) (opened_room deep n h)) q m (waits j n m) (λ i. g i ∙ sym (bare base j))

    opened_begun : (j n : ℕ) (base : List Node) {nodes : ℕ} {code : List ℕ} → Onward s at t.next → length s ≤ j + at → min n 1025 ≡ nodes → (n ≤ 1024 → code_of code n ≡ base) → {r : Std.Result Act Refusal} → Opens deep t.place t.next w nodes r
        → Acted s (suc deep) n base code (cond_at s (suc j) deep (here at n)) r
    opened_begun zero n base on l q g o = absurd (omega (arith, on.0, on.1, l))
    opened_begun (suc j) n base on l q g o = opened_acted j n base on l q g o

    opened_moves : {nodes : ℕ} → Onward s at t.next → nodes ≤ 1025 → {r : Std.Result Act Refusal} → Opens deep t.place t.next w nodes r → Moves s (suc at) r
    opened_moves on h (full l) = tt
    opened_moves on h (room l) = (on.0, on.1, h)

    opened_room_for : {nodes : ℕ} {r : Std.Result Act Refusal} → Opens deep t.place t.next w nodes r → deep ≤ 100 → Room deep r
    opened_room_for (full l) h = tt
    opened_room_for (room l) h = l

    opened_begins : {nodes : ℕ} {code : List ℕ} → Onward s at t.next → nodes ≤ 1025 → {r : Std.Result Act Refusal} → Opens deep t.place t.next w nodes r → Begins s at deep code nodes r code
    opened_begins on h o = record { moves = opened_moves on h o; room = opened_room_for o; is = λ j n base l q g. opened_begun j n base on l q g o }

  pub begins_not : {deep nodes : ℕ} {code : List ℕ} → k ≡ Tokens.token·not → nodes ≤ 1025 → {r : Std.Result Act Refusal} → Opens deep t.place t.next Waiting.Not nodes r → Begins s at deep code nodes r code
  unfolding cond_at cond_by cont under Waits
  begins_not {deep} p h o =
      opened_begins Waiting.Not (λ j. denies) (λ j n l. refl) (λ base j. refl) deep
      (λ j n. miss _ _ _ (λ q. omega (arith, p, q)) ∙ miss _ _ _ (λ q. omega (arith, p, q)) ∙ miss _ _ _ (λ q. omega (arith, p, q)) ∙ miss _ _ _ (λ q. omega (arith, p, q)) ∙ hit _ _ _ p)
      (next_inside (λ z. omega (arith, p, z))) h o

  pub begins_or : {deep nodes : ℕ} {code : List ℕ} → k ≡ Tokens.token·opens → nodes ≤ 1025 → {r : Std.Result Act Refusal} → Opens deep t.place t.next Waiting.First nodes r → Begins s at deep code nodes r code
  unfolding cond_at cond_by cont close_at under Waits
  begins_or {deep} p h o =
      opened_begins Waiting.First (λ j. before j) (λ j n l. (refl, l)) (λ base j. refl) deep
      (λ j n. miss _ _ _ (λ q. omega (arith, p, q)) ∙ miss _ _ _ (λ q. omega (arith, p, q)) ∙ miss _ _ _ (λ q. omega (arith, p, q)) ∙ miss _ _ _ (λ q. omega (arith, p, q)) ∙ miss _ _ _ (λ q. omega (arith, p, q)) ∙ hit _ _ _ p)
      (next_inside (λ z. omega (arith, p, z))) h o
