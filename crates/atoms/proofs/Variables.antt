-- The search among the variables: the first tangled one from here on is the first.
-- Assumes nothing.
use mathlib.Core.Path.{◌≡◌, refl, sym, ap, ◌∙◌}
use mathlib.Core.Bool.{Bool, true, false, not}
use mathlib.Core.List.{List, ◌∷◌}
use mathlib.Core.Option.{none, some}
use Prim.Native.Nat.{ℕ, ◌+◌, ◌≤◌, ◌<◌}
use native.Mathlib.Omega.{arith}
use native.Mathlib.Numerals.{add-one}
use lib.Dec.{eqb}
use lib.ListN.{get_or, length, drop, drop_of_length-le}
use borrow.Author.Tests.{ne_eqb}
use lib.Seq.{drop-cons}
use Rattle.meaning.specs.Kinds.{record·tree}
use Rattle.meaning.specs.Types.{Table, Defs}
use Rattle.meaning.specs.Records.{Var, tree, forest, type_in, var_of}
use Rattle.meaning.specs.Formed.{VarsRead}
use Rattle.meaning.specs.Checks.{is_tangled, tangled}
use Rattle.meaning.proofs.Lists.{at_is}
use Rattle.tables.specs.Rows.{var_in, var_at}
use Rattle.words.specs.declared.Entry as Words
use Rattle.atoms.specs.Marks.{Marked, Scoped}

-- as reading guarantees; and among more entries
pub scoped_read : {n : ℕ} {vars : List (ℕ × Var)} → VarsRead n vars → Scoped n vars
scoped_read r = record { low = r.scoped }

pub scoped_more : {m n : ℕ} {vars : List (ℕ × Var)} → m ≤ n → Scoped m vars → Scoped n vars
scoped_more l s = record { low = λ i v x h. omega (arith, s.low i v x h) }

-- a variable's type is among the first n entries
type_low : {n : ℕ} (vars : List (ℕ × Var)) (i : ℕ) → Scoped n vars → i < length vars → type_in (var_at vars i).1 < n
type_low vars i s l = s.low i (var_at vars i).0 (var_at vars i).1 (at_is vars i (0, var_of 0 0) l)

-- THOSE STILL TO COME when i of them have been passed
module _ (vars : List (ℕ × Var)) where
  abbrev pub coming : ℕ → List (ℕ × Var)
  coming i = drop i vars

  coming_next : (i : ℕ) → i < length vars → coming i ≡ var_at vars i ∷ coming (i + 1)
  coming_next i l = rw (add-one i) (drop-cons vars i (0, var_of 0 0) l)

  module _ (D : Defs) (T : Table) where
    tangled_here : (x : ℕ × Var) (xs : List (ℕ × Var)) → true ≡ is_tangled D T x.1 → tangled D T (x ∷ xs) ≡ some x.0
    unfolding tangled
    tangled_here x xs p = rw (tangled, sym p)

    tangled_later : (x : ℕ × Var) (xs : List (ℕ × Var)) → false ≡ is_tangled D T x.1 → tangled D T (x ∷ xs) ≡ tangled D T xs
    unfolding tangled
    tangled_later x xs p = rw (tangled, sym p)

    coming_here : (i : ℕ) → i < length vars → true ≡ is_tangled D T (var_at vars i).1 → tangled D T (coming i) ≡ some (var_at vars i).0
    coming_here i l p = ap (tangled D T) (coming_next i l) ∙ tangled_here (var_at vars i) (coming (i + 1)) p

    coming_more : (i : ℕ) → i < length vars → false ≡ is_tangled D T (var_at vars i).1 → tangled D T (coming i) ≡ tangled D T (coming (i + 1))
    coming_more i l p = ap (tangled D T) (coming_next i l) ∙ tangled_later (var_at vars i) (coming (i + 1)) p

    coming_none : (i : ℕ) → length vars ≤ i → tangled D T (coming i) ≡ none
    unfolding tangled
    coming_none i l = rw (drop_of_length-le vars {i = i} l)

-- ONE VARIABLE
module _ (D : Defs) (T : Table) (k e : ℕ) where
  -- a tree variable by its type's mark
  pub tree_tangled : {n : ℕ} {marks : List Bool} → k ≡ record·tree → Marked D T n marks → e < n → not (get_or marks e false) ≡ is_tangled D T (var_of k e)
  tree_tangled p m l = rw p (ap not (m.is e l))

  -- a forest variable never
  pub forest_tangled : (k ≡ record·tree → ⊥) → false ≡ is_tangled D T (var_of k e)
  forest_tangled p = let is : var_of k e ≡ forest e = rw (var_of, ne_eqb k record·tree p) in ap (is_tangled D T) (sym is)

type_in_lem : (k e : ℕ) → type_in (var_of k e) ≡ e
type_in_lem k e = go (eqb k record·tree)
  where
    go : (b : Bool) → type_in (elim b as (λ _. Var) [ true ↦ tree e | false ↦ forest e ]) ≡ e
    go true = refl
    go false = refl

-- its type is among the entries
pub type_inside : {n : ℕ} (vars : List (ℕ × Var)) (i e : ℕ) (w : Words.Entry) → var_in w ≡ var_at vars i → e ≡ w.b → Scoped n vars → i < length vars → e < n
type_inside vars i e w r p s l = omega (arith, p, ap (λ (x : ℕ × Var). type_in x.1) r, type_in_lem w.kind w.b, type_low vars i s l)

-- SO MANY VARIABLES are not tangled
pub record Seeking (vars : List (ℕ × Var)) (marks : List Bool) (i : ℕ) : Type 0 where
  pub to : i ≤ length vars
  pub rest : (D : Defs) (T : Table) (n : ℕ) → Marked D T n marks → Scoped n vars → tangled D T (coming vars i) ≡ tangled D T vars

pub seeking_none : (vars : List (ℕ × Var)) (marks : List Bool) → Seeking vars marks 0
seeking_none vars marks = record { to = omega arith; rest = λ D T n m s. refl }

module _ {vars : List (ℕ × Var)} {marks : List Bool} {i : ℕ} (w : Words.Entry) (e : ℕ) (b : Bool) (r : var_in w ≡ var_at vars i) (p : e ≡ w.b) (h : (D : Defs) (T : Table) (n : ℕ) → Marked D T n marks → e < n → b ≡ is_tangled D T (var_of w.kind e)) (s : Seeking vars marks i) (l : i < length vars) where
  told : (D : Defs) (T : Table) (n : ℕ) → Marked D T n marks → Scoped n vars → b ≡ is_tangled D T (var_at vars i).1
  told D T n m z =
      let is : var_of w.kind e ≡ (var_at vars i).1 = ap (var_of w.kind) p ∙ ap (λ (x : ℕ × Var). x.1) r in
      h D T n m (type_inside vars i e w r p z l) ∙ ap (is_tangled D T) is

  pub seeking_more : b ≡ false → Seeking vars marks (i + 1)
  seeking_more q = record { to = omega arith; rest = λ D T n m z. sym (coming_more vars D T i l (sym q ∙ told D T n m z)) ∙ s.rest D T n m z }

  pub seeking_here : b ≡ true → (v : ℕ) → v ≡ w.a → (D : Defs) (T : Table) (n : ℕ) → Marked D T n marks → Scoped n vars → some v ≡ tangled D T vars
  seeking_here q v u D T n m z = ap some (u ∙ ap (λ (x : ℕ × Var). x.0) r) ∙ sym (coming_here vars D T i l (sym q ∙ told D T n m z)) ∙ s.rest D T n m z

pub seeking_all : {vars : List (ℕ × Var)} {marks : List Bool} {i : ℕ} → Seeking vars marks i → length vars ≤ i → (D : Defs) (T : Table) (n : ℕ) → Marked D T n marks → Scoped n vars → none ≡ tangled D T vars
seeking_all {vars} {marks} {i} s l D T n m z = sym (coming_none vars D T i l) ∙ s.rest D T n m z
