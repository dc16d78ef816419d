-- A rule after another: what the first left, and the second from there, is what `after` says. And what a rule that grows a table keeps.
-- Assumes nothing.
use mathlib.Core.Path.{◌≡◌, refl, sym, ap, subst, ◌∙◌}
use mathlib.Core.List.{List, [], ◌∷◌, ◌++◌}
use Prim.Native.Nat.{ℕ, zero, suc, ◌+◌, ◌≤◌, ◌<◌}
use native.Mathlib.Omega.{arith}
use native.Mathlib.Decide.{ℕ_discrete, dec_lt}
use lib.ListN.{length, take, length-append}
use lib.Seq.{take-length, take-append-le}
use Rattle.meaning.specs.Base.{Out, ok, refused, type_capacity}
use Rattle.meaning.specs.Types.{Entry, Table, Defs}
use Rattle.meaning.specs.Rules.{Rule, after, append}
use Rattle.meaning.proofs.Lists.{Grows, grows_length}
use Rattle.meaning.proofs.Ends.{Ends, ends_ok}
use Rattle.meaning.proofs.Grow.{Grew}
use Rattle.words.specs.Tables.{table_of}
use Rattle.words.proofs.Tables.{table_length}
use Rattle.grow.specs.Grow.{Ready, answer_of, After, Left}
use Rattle.grow.specs.declared.Made.{Made}
use Rattle.refusals.specs.declared.Refusal.{Refusal}
use Rattle.refusals.specs.Says.{number_of}
use Rattle.std.specs.Prelude as Std
use Rattle.std.specs.Prelude.{Result}
use Rattle.grow.proofs.Growth.{append_room, append_full}

-- AN ANSWER without change
pub left_here : {D : Defs} {ws cs : List ℕ} {n e : ℕ} → Ready D ws cs n → e < n → Left D ws ws cs cs (Std.Ok (record { at = e; count = n })) (ok (table_of ws n, e))
left_here R l = record { answer = refl; long = refl; longs = refl; ready = (R, l) }

-- ONE RULE AFTER ANOTHER
module _ {D : Defs} {ws us cs ds : List ℕ} {r : Result Made Refusal} {x : Out (Table × ℕ)} where
  pub after_ok : {m : Made} → r ≡ Std.Ok m → Left D ws us cs ds r x → x ≡ ok (table_of us m.count, m.at)
  after_ok p h = sym h.answer ∙ ap (λ (o : Result Made Refusal). answer_of o us) p

  pub after_refused : {e : Refusal} → r ≡ Std.Err e → Left D ws us cs ds r x → x ≡ refused (number_of e.reason) e.place
  after_refused p h = sym h.answer ∙ ap (λ (o : Result Made Refusal). answer_of o us) p

  -- what the next rule is given
  pub left_ready : {m : Made} → r ≡ Std.Ok m → Left D ws us cs ds r x → Ready D us ds m.count × (m.at < m.count)
  left_ready p h = subst (After D us ds) p h.ready

  -- a refusal is passed on
  pub left_stop : {e : Refusal} (f : ℕ → Rule ℕ) → r ≡ Std.Err e → Left D ws us cs ds r x → Left D ws us cs ds r (after x f)
  left_stop f p h =
      record {
        answer = ap (λ (o : Result Made Refusal). answer_of o us) p ∙ ap (λ (o : Out (Table × ℕ)). after o f) (sym (after_refused p h));
        long = h.long;
        longs = h.longs;
        ready = h.ready;
      }

  -- the next rule, from the words and with the room that the first left
  pub left_after : (f : ℕ → ℕ → Rule ℕ) {m : Made} {vs es : List ℕ} {s : Result Made Refusal} → r ≡ Std.Ok m → Left D ws us cs ds r x
      → Left D us vs ds es s (f (type_capacity (length us)) m.at (table_of us m.count)) → Left D ws vs cs es s (after x (f (type_capacity (length ws))))
  left_after f {m} p h g =
      record {
        answer = g.answer ∙ ap (λ (n : ℕ). f (type_capacity n) m.at (table_of us m.count)) h.long ∙ ap (λ (o : Out (Table × ℕ)). after o (f (type_capacity (length ws)))) (sym (after_ok p h));
        long = g.long ∙ h.long;
        longs = g.longs ∙ h.longs;
        ready = g.ready;
      }

  -- the same, where the answer of both is known otherwise
  pub left_on : {m : Made} {vs es : List ℕ} {s : Result Made Refusal} {y z : Out (Table × ℕ)} → r ≡ Std.Ok m → Left D ws us cs ds r x → Left D us vs ds es s y → y ≡ z → Left D ws vs cs es s z
  left_on p h g q = record { answer = g.answer ∙ q; long = g.long ∙ h.long; longs = g.longs ∙ h.longs; ready = g.ready }

  -- a rule that grows the table has grown it to the one that was left
  pub made : {room : ℕ} {m : Made} {T : Table} {R : ℕ → ℕ → Type 0} → Ends (Grew D room T) R x → r ≡ Std.Ok m → Left D ws us cs ds r x → Grew D room T (table_of us m.count, m.at)
  made {room} {m} {T} {R} e p h = ends_ok (subst (Ends (Grew D room T) R) (after_ok p h) e)

-- WHAT IS KEPT, where the table grew from the first n entries of ws to the first m of us
table_first : (us : List ℕ) (k n : ℕ) → k ≤ n → take k (table_of us n) ≡ table_of us k
unfolding table_of
table_first us k zero h = let p : k ≡ 0 = omega arith in rw p
table_first us k (suc n) h = go (ℕ_discrete k (suc n)) (λ l. table_first us k n l)
  where
    go : Dec (k ≡ suc n) → (k ≤ n → take k (table_of us n) ≡ table_of us k) → take k (table_of us (suc n)) ≡ table_of us k
    go (yes p) r = rw p (ap (λ (i : ℕ). take i (table_of us (suc n))) (sym (table_length us (suc n))) ∙ take-length (table_of us (suc n)))
    go (no p) r = take-append-le k (table_of us n) _ (omega (arith, table_length us n)) ∙ r (omega arith)

module _ (ws us : List ℕ) (n m : ℕ) (G : Grows (table_of ws n) (table_of us m)) where
  pub kept_count : n ≤ m
  kept_count = omega (arith, grows_length G, table_length ws n, table_length us m)

  -- the entries that were there
  pub kept_table : (k : ℕ) → k ≤ n → table_of us k ≡ table_of ws k
  kept_table k h =
      sym (table_first us k m (omega (arith, kept_count)))
      ∙ ap (take k) G.is
      ∙ take-append-le k (table_of ws n) G.tail (omega (arith, table_length ws n))
      ∙ table_first ws k n h

-- what an append that made an entry says
pub record Appended (ws us : List ℕ) (n l m : ℕ) (x : Entry) : Type 0 where
  pub at : l ≡ n
  pub count : m ≡ n + 1
  pub room : n < type_capacity (length ws)
  pub is : table_of us m ≡ table_of ws n ++ (x ∷ [])

same_ok : {A : Type 0} {a b : A} → ok a ≡ ok b → a ≡ b
same_ok p = cc

ok_refused : {A B : Type 0} {a : A} {k place : ℕ} → ◌≡◌ {A = Out A} (refused k place) (ok a) → B
ok_refused p = let z : ◌≡◌ {A = ℕ} 0 1 = cc in absurd (omega arith)

pub appended : {D : Defs} {ws us cs ds : List ℕ} {r : Result Made Refusal} (n node : ℕ) (x : Entry) {m : Made} → r ≡ Std.Ok m
    → Left D ws us cs ds r (append (type_capacity (length ws)) node x (table_of ws n)) → Appended ws us n m.at m.count x
appended {ws = ws} {us} n node x {m} p h = go (dec_lt n (type_capacity (length ws)))
  where
    go : Dec (n < type_capacity (length ws)) → Appended ws us n m.at m.count x
    go (yes b) =
        let q : ◌≡◌ {A = Table × ℕ} (table_of ws n ++ (x ∷ []), length (table_of ws n)) (table_of us m.count, m.at)
        = same_ok (sym (append_room (type_capacity (length ws)) node x (table_of ws n) (rw table_length b)) ∙ after_ok p h) in
        let is : table_of us m.count ≡ table_of ws n ++ (x ∷ []) = sym (ap (λ (t : Table × ℕ). t.0) q) in
        record {
          at = sym (ap (λ (t : Table × ℕ). t.1) q) ∙ table_length ws n;
          count = omega (arith, ap length is, length-append (table_of ws n) (x ∷ []), table_length ws n, table_length us m.count);
          room = b;
          is = is;
        }
    go (no b) = ok_refused (sym (append_full (type_capacity (length ws)) node x (table_of ws n) (rw table_length (omega arith))) ∙ after_ok p h)

pub appended_grows : {ws us : List ℕ} {n l m : ℕ} {x : Entry} → Appended ws us n l m x → Grows (table_of ws n) (table_of us m)
appended_grows {x = x} a = record { tail = x ∷ []; is = a.is }
