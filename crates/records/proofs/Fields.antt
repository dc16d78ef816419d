-- A whole record's words are its fields, as many as its length says.
-- Assumes nothing.
use mathlib.Core.Path.{◌≡◌, refl, ap, ap₂}
use mathlib.Core.List.{List, [], ◌∷◌}
use Prim.Native.Nat.{ℕ, zero, suc, ◌+◌, ◌*◌}
use native.Mathlib.Omega.{arith}
use lib.ListN.{length, get_or, take}
use lib.Seq.{take-nil}
use Rattle.meaning.specs.Records.{Sort, fields_at, length_of}
use Rattle.records.specs.declared.Item.{Item}
use Rattle.records.specs.Says.{sort_of, fields_in, sorts_of, form_of, fields_of, Filled, FieldAt}

-- the first k of three words, where the record has k fields
record Cells (s : List ℕ) (at : ℕ) (ss : List Sort) (ws : List ℕ) (x y z : ℕ) : Type 0 where
  all : ws ≡ fields_at s at ss
  a : x ≡ get_or ws 0 0
  b : y ≡ get_or ws 1 0
  c : z ≡ get_or ws 2 0

cells : (s : List ℕ) (at n k : ℕ) (x y z : Sort) (a b c : ℕ) → n ≡ 4 + 2 * length (take k (x ∷ y ∷ z ∷ []))
    → FieldAt s (at + 4) (at + n) a → FieldAt s (at + 6) (at + n) b → FieldAt s (at + 8) (at + n) c
    → Cells s (at + 4) (take k (x ∷ y ∷ z ∷ [])) (take k (a ∷ b ∷ c ∷ [])) a b c
unfolding fields_at
cells s at n zero x y z a b c e fa fb fc =
    record { all = refl; a = fa.outside (omega arith); b = fb.outside (omega arith); c = fc.outside (omega arith) }
cells s at n (suc zero) x y z a b c e fa fb fc =
    record { all = ap (λ (w : ℕ). w ∷ []) (fa.inside (omega arith)); a = refl; b = fb.outside (omega arith); c = fc.outside (omega arith) }
cells s at n (suc (suc zero)) x y z a b c e fa fb fc =
    let p : at + 4 + 2 ≡ at + 6 = omega arith in
    record {
      all = rw p (ap₂ (λ (w v : ℕ). w ∷ v ∷ []) (fa.inside (omega arith)) (fb.inside (omega arith)));
      a = refl;
      b = refl;
      c = fc.outside (omega arith);
    }
cells s at n (suc (suc (suc k))) x y z a b c e fa fb fc =
    let p : at + 4 + 2 ≡ at + 6 = omega arith in
    let q : at + 6 + 2 ≡ at + 8 = omega arith in
    let none : take k [] ≡ [] = take-nil {A = Sort} k in
    let nil : take k [] ≡ [] = take-nil {A = ℕ} k in
    let m : n ≡ 10 = omega (arith, ap length none) in
    rw (none, nil) (record {
      all = rw (p, q) (λ i. fa.inside (omega arith) i ∷ fb.inside (omega arith) i ∷ fc.inside (omega arith) i ∷ []);
      a = refl;
      b = refl;
      c = refl;
    })

module _ (s : List ℕ) (at : ℕ) (i : Item) (long : i.form.length ≡ length_of (form_of i.form))
    (fa : FieldAt s (at + 4) (at + i.form.length) i.a) (fb : FieldAt s (at + 6) (at + i.form.length) i.b) (fc : FieldAt s (at + 8) (at + i.form.length) i.c) where
  item_cells : Cells s (at + 4) (sorts_of i.form) (fields_of i) i.a i.b i.c
  unfolding sorts_of fields_of
  item_cells =
      let f = i.form in
      cells s at f.length (fields_in f) (sort_of f.a) (sort_of f.b) (sort_of f.c) i.a i.b i.c long fa fb fc

  pub fields_are : fields_of i ≡ fields_at s (at + 4) (sorts_of i.form)
  fields_are = item_cells.all

  pub filled : Filled i
  filled = record { a = item_cells.a; b = item_cells.b; c = item_cells.c }
