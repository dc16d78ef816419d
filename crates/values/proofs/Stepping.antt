-- Reading a forest by its first record, whether a text or a label: a text has nothing inside. Pending forests, one after the other, are read record by
-- record (`follow`), each label putting its own before the rest.
-- Assumes nothing.
use mathlib.Core.Path.{◌≡◌, refl, sym, ap, ◌∙◌, subst}
use mathlib.Core.Bool.{Bool, true, false, ◌&&◌}
use mathlib.Core.List.{List, [], ◌∷◌, ◌++◌}
use mathlib.Core.Option.{some}
use Prim.Native.Nat.{ℕ, zero, suc, ◌+◌, ◌-◌, ◌≤◌}
use native.Mathlib.Omega.{arith}
use native.Mathlib.Nat.{sub-zero}
use lib.Dec.{leb, ltb, eqb}
use lib.ListN.{length, get_or}
use borrow.Author.Tests.{leb-true, le-leb, eqb-true}
use Rattle.meaning.specs.Base.{Out, ok, refused, ◌>>=◌, require, find}
use Rattle.meaning.specs.Kinds.{forest·text, forest·label}
use Rattle.meaning.specs.Forests.{Forest, end, leaf, tree}
use Rattle.meaning.specs.Records as Records
use Rattle.meaning.specs.Records.{Record, Form, forms, field, fields_at, record_at, all_fit}
use Rattle.meaning.specs.Values.{as18, value_at, Part, read_forest}
use Rattle.meaning.proofs.Lists.{both_true}
use Rattle.meaning.proofs.Ends.{Ends, ends_ok}
use Rattle.meaning.proofs.Values.{ReadAt, value_ends}
use Rattle.records.proofs.Found.{Known-there, there}
use Rattle.values.specs.Says.{is_entry, entry_at}

-- what is known of an answer that was accepted
pub of_ok : {A : Type 0} {P : A → Type 0} {R : ℕ → ℕ → Type 0} {o : Out A} {a : A} → Ends P R o → o ≡ ok a → P a
of_ok {P = P} {R = R} h e = ends_ok (subst (λ x. Ends P R x) e h)

pub absurd_out : {A B : Type 0} {n p : ℕ} {a : A} → refused n p ≡ ok a → B
absurd_out e = let z : ◌≡◌ {A = ℕ} 0 1 = cc in absurd (omega arith)

-- what an accepted answer was made of
pub bound : {A B : Type 0} {C : Type 0} (o : Out A) (f : A → Out B) {b : B} → (o >>= f) ≡ ok b → ((a : A) → o ≡ ok a → f a ≡ ok b → C) → C
bound (ok a) f e k = k a refl e
bound (refused n p) f e k = absurd_out e

-- ONE RECORD
as18_ok : {A : Type 0} {o : Out A} {a : A} → as18 o ≡ ok a → o ≡ ok a
as18_ok {o = ok a} e = e
as18_ok {o = refused n p} e = absurd_out e

pub tested_ok : {A : Type 0} (b : Bool) (n p : ℕ) {o : Out A} {a : A} → (require b n p >>= λ _. o) ≡ ok a → (b ≡ true) × (o ≡ ok a)
tested_ok true n p e = (refl, e)
tested_ok false n p e = absurd_out e

module _ (s : List ℕ) (at : ℕ) where
  value_known : {r : Record} → value_at s at ≡ ok r → Known-there Records.values s at r
  unfolding value_at
  value_known {r} e = there Records.values s at r (sym (go (as18 (record_at Records.values s at)) refl (tested_ok (ltb at (length s)) 18 (length s) e).1))
    where
      go : (o : Out Record) → as18 (record_at Records.values s at) ≡ o → (o >>= λ r. require (all_fit 0 [] r.form.sorts r.fields) 18 at >>= λ _. ok r) ≡ ok r → record_at Records.values s at ≡ ok r
      go (refused n p) q h = absurd_out h
      go (ok x) q h = as18_ok (q ∙ (tested_ok (all_fit 0 [] x.form.sorts x.fields) 18 at h).1)

  -- a text has nothing inside
  text_bare : {r : Record} → value_at s at ≡ ok r → eqb r.kind forest·text ≡ true → field r 1 ≡ 0
  unfolding find fields_at forms
  text_bare {r} e h =
      let k = value_known e in
      let q : some (Records.form Records.value (Records.any_word ∷ [])) ≡ some r.form = sym (ap (λ (n : ℕ). find n forms) (eqb-true r.kind forest·text h)) ∙ k.known in
      let f : Records.form Records.value (Records.any_word ∷ []) ≡ r.form = cc in
      ap (λ ws. get_or ws 1 0) (k.fields ∙ ap (λ (x : Form). fields_at s (at + 4) x.sorts) (sym f))

-- AN ENTRY that was found: what is inside it is in its stretch
pub record Entered (s : List ℕ) (at n : ℕ) (r : Record) : Type 0 where
  pub value : value_at s at ≡ ok r
  pub kinds : is_entry r.kind ≡ true
  pub inside : field r 1 ≤ n
  pub bare : eqb r.kind forest·text ≡ true → field r 1 ≡ 0
  pub read : ReadAt s at r

pub entered : (s : List ℕ) (at n : ℕ) {r : Record} → entry_at s at n ≡ ok r → Entered s at n r
unfolding entry_at
entered s at n {r} e = go (value_at s at) refl e
  where
    go : (o : Out Record) → value_at s at ≡ o → (o >>= λ r. require (is_entry r.kind && leb (field r 1) n) 18 at >>= λ _. ok r) ≡ ok r → Entered s at n r
    go (refused k p) q h = absurd_out h
    go (ok x) q h =
        let t = tested_ok (is_entry x.kind && leb (field x 1) n) 18 at h in
        let y : x ≡ r = cc in
        let b = both_true (is_entry x.kind) (leb (field x 1) n) t.0 in
        subst (λ z. Entered s at n z) y (record { value = q; kinds = b.0; inside = leb-true (field x 1) n b.1; bare = text_bare s at q; read = of_ok (value_ends s at) q })

-- A FOREST BY ITS FIRST RECORD
abbrev pub top_of : Bool → ℕ → Forest → Forest → Forest
top_of true x i t = leaf x t
top_of false x i t = tree x i t

-- a record at an offset, what is inside it, and what comes behind
abbrev pub part_by : Bool → ℕ → Record → Part → Part → Part
part_by b at r i t = record { forest = top_of b (field r 0) i.forest t.forest; places = at ∷ (i.places ++ t.places); next = t.next }

abbrev pub firstly_by : Bool → ℕ → List ℕ → ℕ → ℕ → Record → Out Part
firstly_by b k s at n r = read_forest k s r.next (field r 1) >>= λ i. read_forest k s i.next (n - field r 1) >>= λ t. ok (part_by b at r i t)

abbrev pub firstly : ℕ → List ℕ → ℕ → ℕ → Record → Out Part
firstly k s at n r = firstly_by (eqb r.kind forest·text) k s at n r

none_inside : (k : ℕ) (s : List ℕ) (at : ℕ) → read_forest k s at 0 ≡ ok (record { forest = end; places = []; next = at })
unfolding read_forest
none_inside zero s at = refl
none_inside (suc k) s at = refl

pub by_value : {A B C : Type 0} (o : Out A) (f : A → Out C) (g : A → Out B) (h : B → Out C) → ((a : A) → o ≡ ok a → f a ≡ (g a >>= h)) → (o >>= f) ≡ ((o >>= g) >>= h)
by_value (ok a) f g h k = k a refl
by_value (refused n p) f g h k = refl

module _ (s : List ℕ) (at n k : ℕ) where
  module _ (r : Record) where
    abbrev on_entry : Bool → Out Part
    on_entry b = (require b 18 at >>= λ _. ok r) >>= firstly k s at n

    text_first : field r 1 ≡ 0 → eqb r.kind forest·text ≡ true
        → (read_forest k s r.next n >>= λ t. ok (record { forest = leaf (field r 0) t.forest; places = at ∷ t.places; next = t.next })) ≡ on_entry (is_entry r.kind && leb (field r 1) n)
    text_first z h =
        let q : firstly_by true k s at n r ≡ (read_forest k s r.next n >>= λ t. ok (record { forest = leaf (field r 0) t.forest; places = at ∷ t.places; next = t.next })) = rw (z, none_inside k s r.next, sub-zero n) refl in
        let y : is_entry r.kind && leb (field r 1) n ≡ true = rw (h, z) (le-leb 0 n (omega arith)) in
        sym q ∙ ap (λ b. firstly_by b k s at n r) (sym h) ∙ ap on_entry (sym y)

    label_first : (b c : Bool) → eqb r.kind forest·text ≡ false → eqb r.kind forest·label ≡ b → leb (field r 1) n ≡ c
        → (require (b && c) 18 at >>= λ _. firstly_by false k s at n r) ≡ on_entry (is_entry r.kind && leb (field r 1) n)
    label_first true true f g h = let y : is_entry r.kind && leb (field r 1) n ≡ true = rw (f, g, h) refl in ap (λ b. firstly_by b k s at n r) (sym f) ∙ ap on_entry (sym y)
    label_first true false f g h = let y : is_entry r.kind && leb (field r 1) n ≡ false = rw (f, g, h) refl in ap on_entry (sym y)
    label_first false c f g h = let y : is_entry r.kind && leb (field r 1) n ≡ false = rw (f, g) refl in ap on_entry (sym y)

    kinds_first : value_at s at ≡ ok r → (b : Bool) → eqb r.kind forest·text ≡ b
        → elim b as (λ _. Out Part) [
          | true ↦ read_forest k s r.next n >>= (λ t. ok (record { forest = leaf (field r 0) t.forest; places = at ∷ t.places; next = t.next }))
          | false ↦ require (eqb r.kind forest·label && leb (field r 1) n) 18 at >>= (λ _. firstly_by false k s at n r)
        ] ≡ on_entry (is_entry r.kind && leb (field r 1) n)
    kinds_first q true h = text_first (text_bare s at q h) h
    kinds_first q false h = label_first (eqb r.kind forest·label) (leb (field r 1) n) h refl refl

  pub forest_step : read_forest (suc k) s at (suc n) ≡ (entry_at s at n >>= firstly k s at n)
  unfolding read_forest entry_at
  forest_step = by_value (value_at s at) _ _ _ (λ r q. kinds_first r q (eqb r.kind forest·text) refl)
