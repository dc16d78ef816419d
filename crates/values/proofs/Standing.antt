-- A record that is due: each way through `fitting`, `value_at`, `entry_at` and `head_at` ends as the definition says.
-- Assumes nothing.
use mathlib.Core.Path.{◌≡◌, refl, sym, ap, ◌∙◌}
use mathlib.Core.Bool.{Bool, true, false, ◌&&◌}
use mathlib.Core.List.{List, []}
use Prim.Native.Nat.{ℕ, ◌≤◌, ◌<◌}
use native.Mathlib.Omega.{arith}
use lib.Dec.{leb, ltb, eqb}
use lib.ListN.{length}
use borrow.Author.Tests.{ltb-false, lt-ltb, le-leb, lt-leb, eq-eqb, ne_eqb}
use Rattle.meaning.specs.Base.{Out, ok, refused, ◌>>=◌, require}
use Rattle.meaning.specs.Kinds.{value·variable}
use Rattle.meaning.specs.Records as Records
use Rattle.meaning.specs.Records.{Record, field, record_at, all_fit}
use Rattle.meaning.specs.Values.{value_at}
use Rattle.std.specs.Prelude as Std
use Rattle.refusals.specs.declared.Reason.{Reason}
use Rattle.refusals.specs.declared.Refusal.{Refusal}
use Rattle.refusals.specs.Says.{number_of}
use Rattle.records.specs.declared.Item.{Item}
use Rattle.records.specs.Says as Found
use Rattle.records.specs.Says.{item_of, rec_of, sorts_of, fields_of, Filled}
use Rattle.records.proofs.Found.{there as known-there}
use Rattle.values.specs.declared.Line.{Line}
use Rattle.values.specs.Says.{Shows, Stands, wrong_at, wrong, there, is_entry, entry_at, head_at}

-- WHAT STANDS THERE
pub record Seen (o : Out Record) (x : Line) : Type 0 where
  pub line : Record
  pub is : o ≡ ok line
  pub shows : Shows x line

pub refuses : {o : Out Record} {e : Refusal} → Stands o (Std.Err e) → o ≡ refused (number_of e.reason) e.place
refuses (wrong q) = q

pub seen : {o : Out Record} {x : Line} → Stands o (Std.Ok x) → Seen o x
seen (there r q h) = record { line = r; is = q; shows = h }

-- A RECORD
module _ {s : List ℕ} {at : ℕ} (low : at ≤ length s) {r : Std.Result Item Reason} (st : Found.Stands Records.values s at r) where
  -- where none is whole; at the end of the file that is the place of one that is missing
  pub value_wrong : {k : Reason} → r ≡ Std.Err k → Stands (value_at s at) (Std.Err (wrong_at at))
  unfolding value_at
  value_wrong {k} e = wrong (go (ltb at (length s)) refl)
    where
      go : (b : Bool) → ltb at (length s) ≡ b → value_at s at ≡ refused 18 at
      go true h = let z : record_at Records.values s at ≡ refused (number_of k) at = sym st.is ∙ ap (rec_of at) e in simp (value_at, h, z) refl
      go false h = let z : length s ≡ at = omega (arith, ltb-false at (length s) h) in simp (value_at, h) (ap (refused 18) z)

  module _ {i : Item} (e : r ≡ Std.Ok i) {b : Bool} (q : b ≡ all_fit 0 [] (sorts_of i.form) (fields_of i)) where
    whole : value_at s at ≡ (require b 18 at >>= λ _. ok (item_of i))
    unfolding value_at
    whole =
        let z : record_at Records.values s at ≡ ok (item_of i) = sym st.is ∙ ap (rec_of at) e in
        let k = known-there Records.values s at (item_of i) (sym z) in
        let low : ltb at (length s) ≡ true = lt-ltb at (length s) (omega (arith, k.next, k.within)) in
        simp (value_at, low, z) (ap (λ (x : Bool). require x 18 at >>= λ _. ok (item_of i)) (sym q))

    pub value_unfit : b ≡ false → Stands (value_at s at) (Std.Err (wrong_at at))
    value_unfit h = wrong (whole ∙ ap (λ (x : Bool). require x 18 at >>= λ _. ok (item_of i)) h)

    pub value_there : b ≡ true → Stands (value_at s at) (Std.Ok (record { kind = i.kind; a = i.a; b = i.b; next = i.next }))
    value_there h =
        let f : Filled i = rw e at st.complete in
        there (item_of i) (whole ∙ ap (λ (x : Bool). require x 18 at >>= λ _. ok (item_of i)) h) (record { kind = refl; a = f.a; b = f.b; next = refl })

-- A RECORD WITH ONE TEST MORE
abbrev tested : (Record → Bool) → ℕ → Out Record → Out Record
tested b at o = o >>= λ r. require (b r) 18 at >>= λ _. ok r

module _ (b : Record → Bool) (at : ℕ) {o : Out Record} where
  passes_on : {e : Refusal} → Stands o (Std.Err e) → Stands (tested b at o) (Std.Err e)
  passes_on st = wrong (ap (tested b at) (refuses st))

  module _ {x : Line} (st : Stands o (Std.Ok x)) where
    fails : b (seen st).line ≡ false → Stands (tested b at o) (Std.Err (wrong_at at))
    fails h = wrong (ap (tested b at) (seen st).is ∙ ap (λ (y : Bool). require y 18 at >>= λ _. ok (seen st).line) h)

    holds : b (seen st).line ≡ true → Stands (tested b at o) (Std.Ok x)
    holds h = there (seen st).line (ap (tested b at) (seen st).is ∙ ap (λ (y : Bool). require y 18 at >>= λ _. ok (seen st).line) h) (seen st).shows

-- ENTRIES AND HEADS. An entry of kind 64 or 65, with what is inside it in its stretch
abbrev is_in : ℕ → Record → Bool
is_in n r = is_entry r.kind && leb (field r 1) n

abbrev is_head : ℕ → Record → Bool
is_head v r = eqb r.kind value·variable && eqb (field r 0) v

module _ (s : List ℕ) (at : ℕ) where
  pub entry_wrong : {e : Refusal} (n : ℕ) → Stands (value_at s at) (Std.Err e) → Stands (entry_at s at n) (Std.Err e)
  unfolding entry_at
  entry_wrong n st = passes_on (is_in n) at st

  pub head_wrong : {e : Refusal} (v : ℕ) → Stands (value_at s at) (Std.Err e) → Stands (head_at v s at) (Std.Err e)
  unfolding head_at
  head_wrong v st = passes_on (is_head v) at st

  module _ {x : Line} (st : Stands (value_at s at) (Std.Ok x)) where
    entry_kind : {r b : Bool} → r ≡ is_entry x.kind → r ≡ b → is_entry (seen st).line.kind ≡ b
    entry_kind q h = ap is_entry (sym (seen st).shows.kind) ∙ sym q ∙ h

    pub entry_other : (n : ℕ) {r : Bool} → r ≡ is_entry x.kind → r ≡ false → Stands (entry_at s at n) (Std.Err (wrong_at at))
    unfolding entry_at
    entry_other n {r} q h = let z = entry_kind q h in fails (is_in n) at st (rw z refl)

    module _ (n : ℕ) {r : Bool} (q : r ≡ is_entry x.kind) (h : r ≡ true) where
      pub entry_past : n < x.b → Stands (entry_at s at n) (Std.Err (wrong_at at))
      unfolding entry_at
      entry_past l =
          let y = entry_kind q h in
          let z : leb (field (seen st).line 1) n ≡ false = lt-leb (field (seen st).line 1) n (omega (arith, (seen st).shows.b)) in
          fails (is_in n) at st (rw (y, z) refl)

      pub entry_there : x.b ≤ n → Stands (entry_at s at n) (Std.Ok x)
      unfolding entry_at
      entry_there l =
          let y = entry_kind q h in
          let z : leb (field (seen st).line 1) n ≡ true = le-leb (field (seen st).line 1) n (omega (arith, (seen st).shows.b)) in
          holds (is_in n) at st (rw (y, z) refl)

    pub head_other : (v : ℕ) → (x.kind ≡ 66 → ⊥) → Stands (head_at v s at) (Std.Err (wrong_at at))
    unfolding head_at
    head_other v h = let z : eqb (seen st).line.kind value·variable ≡ false = ne_eqb (seen st).line.kind 66 (λ y. h ((seen st).shows.kind ∙ y)) in fails (is_head v) at st (rw z refl)

    module _ (v : ℕ) (k : x.kind ≡ 66) where
      kind_is : eqb (seen st).line.kind value·variable ≡ true
      kind_is = eq-eqb (seen st).line.kind 66 (sym (seen st).shows.kind ∙ k)

      pub head_not : (x.a ≡ v → ⊥) → Stands (head_at v s at) (Std.Err (wrong_at at))
      unfolding head_at
      head_not h =
          let z : eqb (field (seen st).line 0) v ≡ false = ne_eqb (field (seen st).line 0) v (λ y. h ((seen st).shows.a ∙ y)) in
          fails (is_head v) at st (rw (kind_is, z) refl)

      pub head_there : x.a ≡ v → Stands (head_at v s at) (Std.Ok x)
      unfolding head_at
      head_there h =
          let z : eqb (field (seen st).line 0) v ≡ true = eq-eqb (field (seen st).line 0) v (sym (seen st).shows.a ∙ h) in
          holds (is_head v) at st (rw (kind_is, z) refl)
