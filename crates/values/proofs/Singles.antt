-- 19: a forest is one tree where its first record has all the others inside.
-- Assumes nothing.
use mathlib.Core.Path.{◌≡◌, refl, sym, ap, ◌∙◌}
use mathlib.Core.Bool.{Bool, true, false}
use mathlib.Core.List.{List}
use Prim.Native.Nat.{ℕ, suc, ◌-◌, ◌≤◌}
use native.Mathlib.Omega.{arith}
use native.Mathlib.Decide.{ℕ_discrete}
use lib.Dec.{eqb}
use borrow.Author.Tests.{eq-eqb, ne_eqb}
use Rattle.meaning.specs.Base.{Out, ok, refused, ◌>>=◌}
use Rattle.meaning.specs.Kinds.{forest·text}
use Rattle.meaning.specs.Forests.{Forest, end, size, trees}
use Rattle.meaning.specs.Records.{Record, field}
use Rattle.meaning.specs.Values.{Part, read_forest}
use Rattle.meaning.proofs.Forests.{trees_none, size_none}
use Rattle.meaning.proofs.Values.{forest_ends}
use Rattle.std.specs.Prelude as Std
use Rattle.refusals.specs.declared.Refusal.{Refusal}
use Rattle.values.specs.declared.Line.{Line}
use Rattle.values.specs.Says.{Stands, entry_at, Single}
use Rattle.values.proofs.Standing.{refuses, seen}
use Rattle.values.proofs.Stepping.{of_ok, absurd_out, bound, entered, top_of, part_by, firstly, forest_step}

top_trees : (b : Bool) (x : ℕ) (i t : Forest) → trees (top_of b x i t) ≡ suc (trees t)
unfolding trees
top_trees true x i t = refl
top_trees false x i t = refl

-- one tree, and m - b entries behind it
one_more : (t : Forest) (b m : ℕ) → b ≤ m → size t ≡ m - b → eqb b m ≡ eqb (suc (trees t)) 1
unfolding trees size
one_more t b m low e = go (ℕ_discrete b m)
  where
    go : Dec (b ≡ m) → eqb b m ≡ eqb (suc (trees t)) 1
    go (yes q) =
        let none : t ≡ end = size_none t (omega arith) in
        eq-eqb b m q ∙ sym (eq-eqb (suc (trees t)) 1 (rw none refl))
    go (no q) = ne_eqb b m q ∙ sym (ne_eqb (suc (trees t)) 1 (λ z. let none : t ≡ end = trees_none t (omega arith) in q (omega (arith, ap size none))))

module _ (s : List ℕ) (start n : ℕ) where
  pub single_none : n ≡ 0 → Single (read_forest n s start n) false
  unfolding read_forest trees
  single_none z = record { is = λ p e. let q : p.forest ≡ end = ap forest_of (sym (sym (ap (λ (m : ℕ). read_forest m s start m) z) ∙ e)) in rw q refl }
    where
      forest_of : Out Part → Forest
      forest_of (ok p) = p.forest
      forest_of (refused k p) = end

  module _ (some : n ≡ 0 → ⊥) where
    firstly_is : {o : Out Record} → entry_at s start (n - 1) ≡ o → read_forest n s start n ≡ (o >>= firstly (n - 1) s start (n - 1))
    firstly_is q =
        let z : n ≡ suc (n - 1) = omega arith in
        ap (λ (m : ℕ). read_forest m s start m) z ∙ forest_step s start (n - 1) (n - 1) ∙ ap (λ (o : Out Record). o >>= firstly (n - 1) s start (n - 1)) q

    pub single_wrong : {r : Refusal} → Stands (entry_at s start (n - 1)) (Std.Err r) → Single (read_forest n s start n) false
    single_wrong st = record { is = λ p e. absurd_out (sym (firstly_is (refuses st)) ∙ e) }

    pub single_there : {x : Line} → Stands (entry_at s start (n - 1)) (Std.Ok x) → Single (read_forest n s start n) (eqb x.b (n - 1))
    single_there {x} st = record { is = λ p e. go p (sym (firstly_is (seen st).is) ∙ e) }
      where
        m : ℕ
        m = n - 1

        r : Record
        r = (seen st).line

        same : x.b ≡ field r 1
        same = (seen st).shows.b

        low : field r 1 ≤ m
        low = (entered s start m (seen st).is).inside

        go : (p : Part) → firstly m s start m r ≡ ok p → eqb x.b m ≡ eqb (trees p.forest) 1
        go p e =
            bound (read_forest m s r.next (field r 1)) _ e λ j f g.
            bound (read_forest m s j.next (m - field r 1)) _ g λ t h k.
            let z : part_by (eqb r.kind forest·text) start r j t ≡ p = cc in
            let last = of_ok (forest_ends s m j.next (m - field r 1) (omega (arith, low))) h in
            let y : trees p.forest ≡ suc (trees t.forest) = ap (λ (y : Part). trees y.forest) (sym z) ∙ top_trees (eqb r.kind forest·text) (field r 0) j.forest t.forest in
            rw (same, y) (one_more t.forest (field r 1) m low last.entries)
