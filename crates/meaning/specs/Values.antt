-- The values file: read whole (18), one tree for a tree variable (19), loaded into the work table (20).
-- Assumes nothing.
use Rattle.std.specs.Prelude.{ℕ, zero, suc, ◌-◌, Bool, true, false, not, ◌&&◌, List, [], ◌∷◌, ◌++◌, leb, ltb, eqb, length, get_or}
use Rattle.std.proofs.Math.Option.{Option, none, some}
use Rattle.meaning.specs.Base.{Out, ok, refused, ◌>>=◌, require, refuse_at, concat_map}
use Rattle.meaning.specs.Kinds.{forest·text, forest·label, value·variable}
use Rattle.meaning.specs.Records as Records
use Rattle.meaning.specs.Records.{Record, field, record_at, all_fit, Var}
use Rattle.meaning.specs.Forests.{Forest, end, leaf, tree, join, trees}

-- 18 "cut, unknown or unexpected kind, length, label, variable not the next one, stretch past its enclosing one, missing or surplus record", at the
-- offset, or the file's length if missing
abbrev pub as18 : {A : Type 0} → Out A → Out A
as18 (ok a) = ok a
as18 (refused n place) = refused 18 place

-- a record that is due at an offset
unfoldable pub value_at : List ℕ → ℕ → Out Record
value_at s at = do
  _ ← require (ltb at (length s)) 18 (length s)
  r ← as18 (record_at Records.values s at)
  _ ← require (all_fit 0 [] r.form.sorts r.fields) 18 at
  ok r

-- what was read: a forest, the offsets of its records, and the offset behind them
pub record Part : Type 0 where
  pub forest : Forest
  pub places : List ℕ
  pub next : ℕ

-- "n records 64 (text) or 65 (label, records inside)" from an offset on; k is n or more
unfoldable pub read_forest : ℕ → List ℕ → ℕ → ℕ → Out Part
read_forest zero s at n = ok (record { forest = end; places = []; next = at })
read_forest (suc k) s at zero = ok (record { forest = end; places = []; next = at })
read_forest (suc k) s at (suc n) = do
  r ← value_at s at
  elim (eqb r.kind forest·text) [
    | true ↦ (do
      rest ← read_forest k s r.next n
      ok (record { forest = leaf (field r 0) rest.forest; places = at ∷ rest.places; next = rest.next }))
    | false ↦ (do
      _ ← require (eqb r.kind forest·label && leb (field r 1) n) 18 at
      inside ← read_forest k s r.next (field r 1)
      rest ← read_forest k s inside.next (n - field r 1)
      ok (record {
        forest = tree (field r 0) inside.forest rest.forest;
        places = at ∷ (inside.places ++ rest.places);
        next = rest.next;
      }))
  ]

-- "record 66 (v, n)" and its forest, for the variable v
unfoldable pub read_value : ℕ → List ℕ → ℕ → Out Part
read_value v s at = do
  r ← value_at s at
  _ ← require (eqb r.kind value·variable && eqb (field r 0) v) 18 at
  read_forest (field r 1) s r.next (field r 1)

-- a declared variable's value: its declaration, the offset of its record 66, and what was read behind that
pub record Value : Type 0 where
  pub declared : ℕ × Var
  pub place : ℕ
  pub part : Part

-- "per declared variable in declared order", to the end of the file
unfoldable pub read_values : List (ℕ × Var) → List ℕ → ℕ → Out (List Value)
read_values [] s at = do
  _ ← require (leb (length s) at) 18 at
  ok []
read_values (x ∷ xs) s at = do
  p ← read_value x.0 s at
  vs ← read_values xs s p.next
  ok (record { declared = x; place = at; part = p } ∷ vs)

-- 19 "tree variable without exactly one tree", at the offset of its 66
abbrev pub is_odd : Var → Forest → Bool
is_odd (Records.tree e) f = not (eqb (trees f) 1)
is_odd (Records.forest e) f = false

unfoldable pub odd : List Value → Option ℕ
odd [] = none
odd (v ∷ vs) = elim (is_odd v.declared.1 v.part.forest) [ true ↦ some v.place | false ↦ odd vs ]

-- 20 "work table full: loading values", "at the first record without room": each record 64 or 65 takes one entry
abbrev pub entry_places : List Value → List ℕ
entry_places vs = concat_map (λ (v : Value). v.part.places) vs

abbrev pub fitting : ℕ → List Value → Out (List Value)
fitting room vs = do
  _ ← require (leb (length (entry_places vs)) room) 20 (get_or (entry_places vs) room 0)
  ok vs

-- "18 over the whole values file, then 19, then 20"
unfoldable pub load_values : ℕ → List (ℕ × Var) → List ℕ → Out (List Value)
load_values room vars s = do
  vs ← read_values vars s 0
  _ ← refuse_at 19 (odd vs)
  fitting room vs

-- "Values come first": the values as they stand in the work table
unfoldable pub joined : List Value → Forest
joined [] = end
joined (v ∷ vs) = join v.part.forest (joined vs)
