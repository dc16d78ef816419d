-- A type record by its type: how long it is, and when it is put. And the records of a formed table are few bytes.
-- Assumes nothing.
use mathlib.Core.Path.{◌≡◌, sym, ap, subst, ◌∙◌}
use mathlib.Core.Logic.{◌⊎◌, inl, inr}
use mathlib.Core.List.{List, [], ◌∷◌}
use Prim.Native.Nat.{ℕ, ◌+◌, ◌*◌, ◌≤◌}
use native.Mathlib.Omega.{arith}
use lib.ListN.{length, length-append}
use Rattle.meaning.specs.Base.{concat_map}
use Rattle.meaning.specs.Kinds
use Rattle.meaning.specs.Types.{Entry, Table, Defs, kind_of, fields_of}
use Rattle.meaning.specs.Formed.{Formed}
use Rattle.meaning.specs.Answers.{record_of, type_record, answer_file}
use Rattle.meaning.proofs.FileLength.{record_length, file_short}
use Rattle.entries.specs.Says.{shown}
use Rattle.entries.specs.declared.Ty.{Ty}
use Rattle.answers.specs.Parts.{type_bytes, Extends}

-- a record of these fields: how long it is, and when it is put
module _ (y : Entry) (ws : List ℕ) (is : type_record y ≡ record_of (kind_of y) ws) where
  fields_long : length (type_record y) ≡ 4 + 2 * length ws
  fields_long = ap length is ∙ record_length (kind_of y) ws

  fields_put : {at to kind : ℕ} {t u : List ℕ} → kind ≡ kind_of y → Extends at to (record_of kind ws) t u → Extends at to (type_record y) t u
  fields_put {at} {to} {t = t} {u = u} e h = subst (λ (r : List ℕ). Extends at to r t u) (ap (λ (k : ℕ). record_of k ws) e ∙ sym is) h

-- THE FIELDS of a type's record: none, one, two
module _ {x : Ty} where
  none_of : (x ≡ Ty.Empty) ⊎ (x ≡ Ty.Text) → type_record (shown x) ≡ record_of (kind_of (shown x)) []
  unfolding fields_of
  none_of (inl e) = rw e
  none_of (inr e) = rw e

  one_of : {a : ℕ} → (x ≡ Ty.Star a) ⊎ ((x ≡ Ty.Plus a) ⊎ ((x ≡ Ty.Opt a) ⊎ (x ≡ Ty.Name a))) → type_record (shown x) ≡ record_of (kind_of (shown x)) (a ∷ [])
  unfolding fields_of
  one_of (inl e) = rw e
  one_of (inr (inl e)) = rw e
  one_of (inr (inr (inl e))) = rw e
  one_of (inr (inr (inr e))) = rw e

  two_of : {a b : ℕ} → (x ≡ Ty.Element a b) ⊎ ((x ≡ Ty.Pair a b) ⊎ (x ≡ Ty.Union a b)) → type_record (shown x) ≡ record_of (kind_of (shown x)) (a ∷ b ∷ [])
  unfolding fields_of
  two_of (inl e) = rw e
  two_of (inr (inl e)) = rw e
  two_of (inr (inr e)) = rw e

  pub none_long : (x ≡ Ty.Empty) ⊎ (x ≡ Ty.Text) → length (type_record (shown x)) ≡ 4
  none_long h = fields_long (shown x) [] (none_of h)

  pub one_long : {a : ℕ} → (x ≡ Ty.Star a) ⊎ ((x ≡ Ty.Plus a) ⊎ ((x ≡ Ty.Opt a) ⊎ (x ≡ Ty.Name a))) → length (type_record (shown x)) ≡ 6
  one_long {a} h = fields_long (shown x) (a ∷ []) (one_of h)

  pub two_long : {a b : ℕ} → (x ≡ Ty.Element a b) ⊎ ((x ≡ Ty.Pair a b) ⊎ (x ≡ Ty.Union a b)) → length (type_record (shown x)) ≡ 8
  two_long {a} {b} h = fields_long (shown x) (a ∷ b ∷ []) (two_of h)

  module _ {at to kind : ℕ} {t u : List ℕ} (e : kind ≡ kind_of (shown x)) where
    pub none_put : (x ≡ Ty.Empty) ⊎ (x ≡ Ty.Text) → Extends at to (record_of kind []) t u → Extends at to (type_record (shown x)) t u
    none_put h = fields_put (shown x) [] (none_of h) e

    pub one_put : {a : ℕ} → (x ≡ Ty.Star a) ⊎ ((x ≡ Ty.Plus a) ⊎ ((x ≡ Ty.Opt a) ⊎ (x ≡ Ty.Name a))) → Extends at to (record_of kind (a ∷ [])) t u → Extends at to (type_record (shown x)) t u
    one_put {a} h = fields_put (shown x) (a ∷ []) (one_of h) e

    pub two_put : {a b : ℕ} → (x ≡ Ty.Element a b) ⊎ ((x ≡ Ty.Pair a b) ⊎ (x ≡ Ty.Union a b)) → Extends at to (record_of kind (a ∷ b ∷ [])) t u → Extends at to (type_record (shown x)) t u
    two_put {a} {b} h = fields_put (shown x) (a ∷ b ∷ []) (two_of h) e

-- THE RECORDS of a formed table are few bytes, so that no sum of them overflows
pub types_short : {D : Defs} {T : Table} → Formed D T → length (type_bytes T) ≤ 32768
unfolding answer_file concat_map
types_short {D} {T} F =
    let last = record_of Kinds.record·result (0 ∷ []) in
    omega (arith, file_short T [] 0, length-append (type_bytes T) last, record_length Kinds.record·result (0 ∷ []), F.few)
