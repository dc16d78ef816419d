-- A node's record by how many fields its kind has, written word by word.
-- Assumes nothing.
use mathlib.Core.Path.{◌≡◌, refl, sym, ap, subst, ◌∙◌}
use mathlib.Core.Bool.{Bool}
use mathlib.Core.List.{List, [], ◌∷◌, ◌++◌}
use mathlib.Core.Option.{Option, none, some}
use Prim.Native.Nat.{ℕ, zero, suc, ◌+◌, ◌-◌, ◌*◌, ◌/◌, ◌%◌, ◌≤◌, ◌<◌}
use native.Mathlib.Omega.{arith}
use lib.Dec.{leb}
use lib.ListN.{length, get_or, take}
use lib.Seq.{take-suc}
use borrow.Author.Tests.{leb-true}
use Rattle.meaning.specs.Base.{bytes_of, find}
use Rattle.meaning.specs.Records.{Form, forms, Node, node}
use Rattle.meaning.specs.Answers.{record_of}
use Rattle.meaning.specs.Texts.{field_count, node_record}
use Rattle.meaning.proofs.Finding.{find_row, test_rows}
use Rattle.meaning.proofs.FileLength.{record_length}
use Rattle.words.specs.Tables.{stored}
use Rattle.answers.specs.Parts.{Extends}
use Rattle.answers.proofs.Extending.{extends_then, extends_word}
use Rattle.records.specs.Says.{Formed}
use Rattle.std.specs.Prelude as Std
use Rattle.records.specs.declared.Form as Code
use Rattle.sections.specs.Says.{size_of}

-- no kind has more than three fields
small : ℕ → Form → Bool
small k f = leb (length f.sorts) 3

few_of : (k : ℕ) (o : Option Form) → find k forms ≡ o → field_count o ≤ 3
unfolding forms small
few_of k none e = omega arith
few_of k (some f) e = leb-true (length f.sorts) 3 (find_row k f (test_rows small forms refl) e)

pub few : (k : ℕ) → field_count (find k forms) ≤ 3
few k = few_of k (find k forms) refl

-- HOW LONG a record is, by what is known of its kind
pub size_known : {k : ℕ} (f : Code.Form) → Formed k (Std.Some f) → f.length ≡ size_of k
size_known f h = h.sized ∙ ap (λ (o : Option Form). 4 + 2 * field_count o) h.is

pub size_unknown : {k : ℕ} → Formed k Std.None → 4 ≡ size_of k
size_unknown h = ap (λ (o : Option Form). 4 + 2 * field_count o) h.is

bytes_append : (xs ys : List ℕ) → bytes_of (xs ++ ys) ≡ bytes_of xs ++ bytes_of ys
unfolding bytes_of
bytes_append [] ys = refl
bytes_append (x ∷ xs) ys = ap (λ (l : List ℕ). x % 256 ∷ x / 256 ∷ l) (bytes_append xs ys)

-- so many of three
taken : (n a b c : ℕ) → n ≤ 3 → length (take n (a ∷ b ∷ c ∷ [])) ≡ n
taken zero a b c h = refl
taken (suc zero) a b c h = refl
taken (suc (suc zero)) a b c h = refl
taken (suc (suc (suc zero))) a b c h = refl
taken (suc (suc (suc (suc n)))) a b c h = absurd (omega arith)

-- a record has four to ten bytes
pub size_small : (k : ℕ) {size : ℕ} → size ≡ size_of k → (4 ≤ size) × (size ≤ 10)
size_small k es = (omega (arith, es), omega (arith, es, few k))

-- THE RECORD, written word by word: its length, its kind, and so many of its fields
module _ (k a b c : ℕ) where
  abbrev fields : List ℕ
  fields = a ∷ b ∷ c ∷ []

  pub record Fielding (size at : ℕ) (t u : List ℕ) (i : ℕ) : Type 0 where
    pub sized : size ≡ size_of k
    pub fits : at + size ≤ length t
    pub long : length u ≡ length t
    pub put : Extends at (at + 4 + 2 * i) (bytes_of (size ∷ k ∷ take i fields)) t u

  module _ {size at : ℕ} where
    pub fields_none : {t u v : List ℕ} → size ≡ size_of k → u ≡ stored t at (bytes_of (size ∷ [])) → v ≡ stored u (at + 2) (bytes_of (k ∷ [])) → at + size_of k ≤ length t → length u ≡ length t → length v ≡ length u → Fielding size at t v 0
    unfolding bytes_of
    fields_none es one two fits same same2 =
        record {
          sized = es;
          fits = omega (arith, es, fits);
          long = same2 ∙ same;
          put = extends_then {b = at + 2} (extends_word size one (omega (arith, es)) refl) (extends_word k two (omega (arith, es)) (omega arith));
        }

    module _ {t u : List ℕ} {i n : ℕ} (f : Fielding size at t u i) (less : i < n) (en : n ≤ (size - 4) / 2) where
      pub fields_room : (i < 3) × (at + 4 + 2 * i + 2 ≤ length u)
      fields_room = (omega (arith, f.sized, few k), omega (arith, f.sized, f.fits, f.long))

      pub fields_more : {v : List ℕ} → v ≡ stored u (at + 4 + 2 * i) (bytes_of (get_or fields i 0 ∷ [])) → length v ≡ length u → Fielding size at t v (i + 1)
      fields_more {v} e same =
          let next : suc i ≡ i + 1 = omega arith in
          let more : take (i + 1) fields ≡ take i fields ++ (get_or fields i 0 ∷ []) = ap (λ (j : ℕ). take j fields) (sym next) ∙ take-suc fields i 0 fields_room.0 in
          let words : bytes_of (size ∷ k ∷ take (i + 1) fields) ≡ bytes_of (size ∷ k ∷ take i fields) ++ bytes_of (get_or fields i 0 ∷ []) = ap (λ (l : List ℕ). bytes_of (size ∷ k ∷ l)) more ∙ bytes_append (size ∷ k ∷ take i fields) (get_or fields i 0 ∷ []) in
          record {
            sized = f.sized;
            fits = f.fits;
            long = same ∙ f.long;
            put = rw words (extends_then {b = at + 4 + 2 * i} f.put (extends_word (get_or fields i 0) e fields_room.1 (omega arith)));
          }

    pub fields_all : {t u : List ℕ} {i n : ℕ} → Fielding size at t u i → n ≤ i → i ≤ (size - 4) / 2 → (size - 4) / 2 ≤ n → Extends at (at + size) (node_record (node k a b c)) t u
    fields_all {t} {u} {i} f m l en =
        let count : i ≡ field_count (find k forms) = omega (arith, f.sized) in
        let low : i ≤ 3 = omega (arith, count, few k) in
        let sized : size ≡ 4 + 2 * length (take i fields) = omega (arith, f.sized, count, taken i a b c low) in
        let words : bytes_of (size ∷ k ∷ take i fields) ≡ node_record (node k a b c) = ap (λ (n : ℕ). bytes_of (n ∷ k ∷ take i fields)) sized ∙ ap (λ (m : ℕ). record_of k (take m fields)) count in
        let to : at + 4 + 2 * i ≡ at + size = omega (arith, f.sized, count) in
        subst (λ (l : List ℕ). Extends at (at + size) l t u) words (subst (λ (j : ℕ). Extends at j (bytes_of (size ∷ k ∷ take i fields)) t u) to f.put)

-- how many bytes a record has
pub record_size : (x : Node) → length (node_record x) ≡ size_of x.kind
record_size x = record_length x.kind (take (field_count (find x.kind forms)) (x.a ∷ x.b ∷ x.c ∷ [])) ∙ ap (λ (n : ℕ). 4 + 2 * n) (taken (field_count (find x.kind forms)) x.a x.b x.c (few x.kind))
