-- The turns of the three loops: the length of the type records so far, the type records put so far, and the definition records.
-- Assumes nothing.
use mathlib.Core.Path.{◌≡◌, refl, ◌∙◌, subst}
use mathlib.Core.List.{List, [], ◌∷◌}
use Prim.Native.Nat.{ℕ, ◌+◌, ◌*◌, ◌≤◌, ◌<◌}
use native.Mathlib.Omega.{arith}
use lib.ListN.{length, get_or}
use Rattle.meaning.specs.Kinds
use Rattle.meaning.specs.Types as Types
use Rattle.meaning.specs.Types.{Entry, Table, Defs, at}
use Rattle.meaning.specs.Answers.{type_record, def_record}
use Rattle.meaning.proofs.FileLength.{record_length}
use Rattle.words.proofs.Rows.{rows_length}
use Rattle.entries.specs.Says.{shown}
use Rattle.entries.specs.declared.Ty.{Ty}
use Rattle.answers.specs.Parts.{type_bytes, def_bytes, Typed, Extends}
use Rattle.answers.proofs.Fields.{types_short}
use Rattle.answers.proofs.Putting.{coming, coming_length, coming_end, Putting, putting_none, putting_room, putting_more, putting_all}

-- THE TYPE RECORDS
module _ (T : Table) where
  -- the record of an entry that was read is the next to come
  next_length : {i : ℕ} → i < length T → (x : Ty) → shown x ≡ at T i → length (coming type_record T i) ≡ length (type_record (shown x)) + length (coming type_record T (i + 1))
  next_length {i} h x p = rw p (coming_length type_record T Types.empty i h)

  -- n bytes so far
  pub record Sizing (n i : ℕ) : Type 0 where
    pub from : 2 ≤ i
    pub to : i ≤ length T
    pub short : length (type_bytes T) ≤ 32768
    pub whole : n + length (coming type_record T i) ≡ length (type_bytes T)

  pub sizing_none : Typed T → Sizing 0 2
  sizing_none t = record { from = omega arith; to = t.formed.two; short = types_short t.formed; whole = omega arith }

  pub sizing_more : {n i r : ℕ} → Sizing n i → i < length T → (x : Ty) → shown x ≡ at T i → r ≡ length (type_record (shown x)) → Sizing (n + r) (i + 1)
  sizing_more s h x p e = record { from = omega (arith, s.from); to = omega arith; short = s.short; whole = omega (arith, s.whole, next_length h x p, e) }

  pub sizing_room : {n i r : ℕ} → Sizing n i → i < length T → (x : Ty) → shown x ≡ at T i → r ≡ length (type_record (shown x)) → n + r ≤ 32768
  sizing_room s h x p e = omega (arith, s.short, s.whole, next_length h x p, e)

  pub sizing_all : {n i : ℕ} → Sizing n i → length T ≤ i → n ≡ length (type_bytes T)
  sizing_all {i = i} s h = omega (arith, s.whole, coming_end type_record T i h)

  -- the records so far
  pub record Typing (before buffer : List ℕ) (place i : ℕ) : Type 0 where
    pub from : 2 ≤ i
    pub to : i ≤ length T
    pub long : length buffer ≡ length before
    pub fits : length (type_bytes T) ≤ length before
    pub put : Putting type_record T 2 0 before buffer place i

  pub typing_none : {t : List ℕ} → Typed T → length (type_bytes T) ≤ length t → Typing t t 0 2
  typing_none t h = record { from = omega arith; to = t.formed.two; long = refl; fits = h; put = putting_none type_record T }

  pub typing_room : {t u : List ℕ} {place i : ℕ} → Typing t u place i → i < length T → (x : Ty) → shown x ≡ at T i → place + length (type_record (shown x)) ≤ length u
  typing_room s h x p = omega (arith, s.long, s.fits, putting_room type_record T s.put, next_length h x p)

  pub typing_more : {t u v : List ℕ} {place next i : ℕ} → Typing t u place i → i < length T → (x : Ty) → shown x ≡ at T i → length v ≡ length u → Extends place next (type_record (shown x)) u v → Typing t v next (i + 1)
  typing_more {u = u} {v = v} {place = place} {next = next} s h x p l y =
      record {
        from = omega (arith, s.from);
        to = omega arith;
        long = l ∙ s.long;
        fits = s.fits;
        put = putting_more type_record T Types.empty s.put h (subst (λ (e : Entry). Extends place next (type_record e) u v) p y);
      }

  pub typing_all : {t u : List ℕ} {place i : ℕ} → Typing t u place i → length T ≤ i → Extends 0 place (type_bytes T) t u
  typing_all s h = putting_all type_record T s.put h

-- THE DEFINITION RECORDS
pub def_length : (D : Defs) → length (def_bytes D) ≡ 6 * length D
def_length D = rows_length def_record 6 (λ d. record_length Kinds.record·definition (d ∷ [])) D

module _ (D : Defs) where
  pub record Defining (from : ℕ) (before buffer : List ℕ) (place i : ℕ) : Type 0 where
    pub long : length buffer ≡ length before
    pub placed : place ≡ from + 6 * i
    pub put : Putting def_record D 0 from before buffer place i

  pub defining_none : {from : ℕ} {t : List ℕ} → Defining from t t from 0
  defining_none = record { long = refl; placed = omega arith; put = putting_none def_record D }

  pub defining_more : {from place next i : ℕ} {t u v : List ℕ} → Defining from t u place i → i < length D → length v ≡ length u → Extends place next (def_record (get_or D i 0)) u v → Defining from t v next (i + 1)
  defining_more {i = i} s h l x =
      record {
        long = l ∙ s.long;
        placed = omega (arith, s.placed, x.next, record_length Kinds.record·definition (get_or D i 0 ∷ []));
        put = putting_more def_record D 0 s.put h x;
      }

  pub defining_all : {from place i : ℕ} {t u : List ℕ} → Defining from t u place i → length D ≤ i → Extends from place (def_bytes D) t u
  defining_all s h = putting_all def_record D s.put h
