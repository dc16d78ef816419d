-- When all fields of a record fit: one law for each way that `item_fits` returns.
-- Assumes nothing.
use mathlib.Core.Path.{◌≡◌, refl, sym, ◌∙◌}
use mathlib.Core.Bool.{Bool, true, false, not, ◌&&◌}
use mathlib.Core.List.{List, [], ◌∷◌}
use Prim.Native.Nat.{ℕ, suc, ◌-◌, ◌≤◌, ◌<◌}
use native.Mathlib.Omega.{arith}
use borrow.Author.Tests.{not-true, not-false}
use lib.ListN.{take}
use lib.Seq.{take-nil}
use Rattle.meaning.specs.Records as Records
use Rattle.meaning.specs.Records.{Node, is_condition, fits, all_fit}
use Rattle.records.specs.declared.Item.{Item}
use Rattle.records.specs.Says.{sort_of, fields_in, sorts_of, fields_of}

-- what a failed and a passed test of an answer tell of what the answer is
pub failed : {r x : Bool} → not r ≡ true → r ≡ x → false ≡ x
failed {r} h e = sym (not-true r h) ∙ e

pub passed : {r x : Bool} → not r ≡ false → r ≡ x → true ≡ x
passed {r} h e = sym (not-false r h) ∙ e

-- ALL FIELDS of a record, by its length
module _ (n : ℕ) (code : List Node) (i : Item) where
  abbrev three : List Records.Sort
  three = sort_of i.form.a ∷ sort_of i.form.b ∷ sort_of i.form.c ∷ []

  abbrev cells : List ℕ
  cells = i.a ∷ i.b ∷ i.c ∷ []

  first_fit : (k : ℕ) → fields_in i.form ≡ k → all_fit n code (sorts_of i.form) (fields_of i) ≡ all_fit n code (take k three) (take k cells)
  unfolding sorts_of fields_of
  first_fit k e = rw e

  pub none_there : i.form.length < 6 → true ≡ all_fit n code (sorts_of i.form) (fields_of i)
  unfolding all_fit
  none_there h = sym (first_fit 0 (omega arith))

  pub first_bad : {r : Bool} → 6 ≤ i.form.length → not r ≡ true → r ≡ fits n code (sort_of i.form.a) i.a → false ≡ all_fit n code (sorts_of i.form) (fields_of i)
  unfolding all_fit
  first_bad h f a = sym (first_fit (suc (fields_in i.form - 1)) (omega arith) ∙ rw (← failed f a))

  module _ {q : Bool} (h : 6 ≤ i.form.length) (t : not q ≡ false) (a : q ≡ fits n code (sort_of i.form.a) i.a) where
    pub one_there : i.form.length < 8 → true ≡ all_fit n code (sorts_of i.form) (fields_of i)
    unfolding all_fit
    one_there l = sym (first_fit 1 (omega arith) ∙ rw (← passed t a))

    pub second_bad : {r : Bool} → 8 ≤ i.form.length → not r ≡ true → r ≡ fits n code (sort_of i.form.b) i.b → false ≡ all_fit n code (sorts_of i.form) (fields_of i)
    unfolding all_fit
    second_bad l f b = sym (first_fit (suc (suc (fields_in i.form - 2))) (omega arith) ∙ rw (← passed t a, ← failed f b))

    module _ {r : Bool} (l : 8 ≤ i.form.length) (u : not r ≡ false) (b : r ≡ fits n code (sort_of i.form.b) i.b) where
      pub two_there : i.form.length < 10 → true ≡ all_fit n code (sorts_of i.form) (fields_of i)
      unfolding all_fit
      two_there m = sym (first_fit 2 (omega arith) ∙ rw (← passed t a, ← passed u b))

      pub three_there : {x : Bool} → 10 ≤ i.form.length → x ≡ fits n code (sort_of i.form.c) i.c → x ≡ all_fit n code (sorts_of i.form) (fields_of i)
      unfolding all_fit
      three_there m c =
          let k = fields_in i.form - 3 in
          c ∙ sym (first_fit (suc (suc (suc k))) (omega arith) ∙ rw (← passed t a, ← passed u b, take-nil {A = Records.Sort} k) (and_true (fits n code (sort_of i.form.c) i.c)))
        where
          and_true : (y : Bool) → (y && true) ≡ y
          and_true true = refl
          and_true false = refl
