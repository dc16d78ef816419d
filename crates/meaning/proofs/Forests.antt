-- Forests: join and what is made of a join; the words of a forest determine it, so `same` is equality.
-- Assumes nothing.
use mathlib.Core.Path.{◌≡◌, refl, ap, sym, ◌∙◌}
use mathlib.Core.Logic.{◌↔◌}
use mathlib.Core.Bool.{Bool, true, false}
use mathlib.Core.List.{List, [], ◌∷◌, ◌++◌, append_assoc}
use Prim.Native.Nat.{ℕ, ◌+◌, ◌*◌}
use native.Mathlib.Omega.{arith}
use lib.Dec.{eqb}
use lib.ListN.{length, get_or, length-append}
use borrow.Author.Tests.{eqb-true, eq-eqb}
use Rattle.meaning.specs.Base.{forest_width}
use Rattle.meaning.specs.Forests.{Forest, end, leaf, tree, join, size, trees, forest_words, same_words, same, text, label, passes, keep, select, children, below, over}
use Rattle.meaning.proofs.Lists.{never, both_true, append_parts}

-- JOIN
pub join_end : (f : Forest) → join f end ≡ f
unfolding join
join_end end = refl
join_end (leaf t r) = ap (leaf t) (join_end r)
join_end (tree l i r) = ap (tree l i) (join_end r)

pub join_assoc : (f g h : Forest) → join (join f g) h ≡ join f (join g h)
unfolding join
join_assoc end g h = refl
join_assoc (leaf t r) g h = ap (leaf t) (join_assoc r g h)
join_assoc (tree l i r) g h = ap (tree l i) (join_assoc r g h)

pub size_join : (f g : Forest) → size (join f g) ≡ size f + size g
unfolding size join
size_join end g = omega arith
size_join (leaf t r) g = omega (arith, size_join r g)
size_join (tree l i r) g = omega (arith, size_join r g)

pub trees_join : (f g : Forest) → trees (join f g) ≡ trees f + trees g
unfolding trees join
trees_join end g = omega arith
trees_join (leaf t r) g = omega (arith, trees_join r g)
trees_join (tree l i r) g = omega (arith, trees_join r g)

pub words_join : (f g : Forest) → forest_words (join f g) ≡ forest_words f ++ forest_words g
unfolding forest_words join
words_join end g = refl
words_join (leaf t r) g = ap (λ ws. 64 ∷ t ∷ 0 ∷ ws) (words_join r g)
words_join (tree l i r) g = ap (λ ws. 65 ∷ l ∷ size i ∷ ws) (ap (forest_words i ++◌) (words_join r g) ∙ sym (append_assoc (forest_words i) (forest_words r) (forest_words g)))

pub children_join : (f g : Forest) → children (join f g) ≡ join (children f) (children g)
unfolding join children
children_join end g = refl
children_join (leaf t r) g = children_join r g
children_join (tree l i r) g = ap (join i) (children_join r g) ∙ sym (join_assoc i (children r) (children g))

pub below_join : (f g : Forest) → below (join f g) ≡ join (below f) (below g)
unfolding join below
below_join end g = refl
below_join (leaf t r) g = ap (leaf t) (below_join r g)
below_join (tree l i r) g = ap (tree l i) (ap (join (below i)) (below_join r g) ∙ sym (join_assoc (below i) (below r) (below g)))

pub select_join : (w : ℕ) (f g : Forest) → select w (join f g) ≡ join (select w f) (select w g)
unfolding join select
select_join w end g = refl
select_join w (leaf t r) g = rw (select_join w r g, join_assoc)
select_join w (tree l i r) g = rw (select_join w r g, join_assoc)

pub over_join : (body : Forest → Forest) (f g : Forest) → over body (join f g) ≡ join (over body f) (over body g)
unfolding join over
over_join body end g = refl
over_join body (leaf t r) g = rw (over_join body r g, join_assoc)
over_join body (tree l i r) g = rw (over_join body r g, join_assoc)

-- SELECT: test word 0 keeps all, and what was kept is kept again
pub select_all : (f : Forest) → select 0 f ≡ f
unfolding select join passes
select_all end = refl
select_all (leaf t r) = ap (leaf t) (select_all r)
select_all (tree l i r) = ap (tree l i) (select_all r)

select_kept : (w : ℕ) (b : Bool) (f : Forest) → (b ≡ true → select w f ≡ f) → select w (keep b f) ≡ keep b f
unfolding select
select_kept w true f h = h refl
select_kept w false f h = refl

select_leaf : (w t : ℕ) → passes w text ≡ true → select w (leaf t end) ≡ leaf t end
unfolding select join
select_leaf w t e = rw e

select_tree : (w l : ℕ) (i : Forest) → passes w (label l) ≡ true → select w (tree l i end) ≡ tree l i end
unfolding select join
select_tree w l i e = rw e

pub select_twice : (w : ℕ) (f : Forest) → select w (select w f) ≡ select w f
unfolding select
select_twice w end = refl
select_twice w (leaf t r) = rw (select_join, select_twice w r, select_kept w (passes w text) (leaf t end) (select_leaf w t))
select_twice w (tree l i r) = rw (select_join, select_twice w r, select_kept w (passes w (label l)) (tree l i end) (select_tree w l i))

-- EACH: each tree, as a forest of one tree, has the property
unfoldable pub Each : (Forest → Type 0) → Forest → Type 0
Each P end = Unit {0}
Each P (leaf t r) = P (leaf t end) × Each P r
Each P (tree l i r) = P (tree l i end) × Each P r

module _ (P : Forest → Type 0) where
  pub each_join : (f g : Forest) → Each P f → Each P g → Each P (join f g)
  unfolding join Each
  each_join end g p q = q
  each_join (leaf t r) g p q = (p.0, each_join r g p.1 q)
  each_join (tree l i r) g p q = (p.0, each_join r g p.1 q)

  pub each_map : (Q : Forest → Type 0) → ((t : Forest) → P t → Q t) → (f : Forest) → Each P f → Each Q f
  unfolding Each
  each_map Q h end p = tt
  each_map Q h (leaf t r) p = (h _ p.0, each_map Q h r p.1)
  each_map Q h (tree l i r) p = (h _ p.0, each_map Q h r p.1)

pub trees_none : (f : Forest) → trees f ≡ 0 → f ≡ end
unfolding trees
trees_none end e = refl
trees_none (leaf t r) e = absurd (omega arith)
trees_none (tree l i r) e = absurd (omega arith)

pub size_none : (f : Forest) → size f ≡ 0 → f ≡ end
unfolding size
size_none end e = refl
size_none (leaf t r) e = absurd (omega arith)
size_none (tree l i r) e = absurd (omega arith)

-- WORDS: three for each entry, and no two forests have the same
pub length_words : (f : Forest) → length (forest_words f) ≡ forest_width * size f
unfolding forest_words size
length_words end = refl
length_words (leaf t r) = omega (arith, length_words r)
length_words (tree l i r) = omega (arith, length_words i, length_words r, length-append (forest_words i) (forest_words r))

words_parts : (f g h k : Forest) → size f ≡ size h → forest_words f ++ forest_words g ≡ forest_words h ++ forest_words k → (forest_words f ≡ forest_words h) × (forest_words g ≡ forest_words k)
words_parts f g h k n e = append_parts (forest_words f) (forest_words h) (forest_words g) (forest_words k) (omega (arith, length_words f, length_words h)) e

differ : {A : Type 0} → ◌≡◌ {A = ℕ} 0 1 → A
differ z = absurd (omega arith)

pub words_determine : (f g : Forest) → forest_words f ≡ forest_words g → f ≡ g
unfolding forest_words
words_determine end end e = refl
words_determine end (leaf t r) e = differ (cc)
words_determine end (tree l i r) e = differ (cc)
words_determine (leaf t r) end e = differ (cc)
words_determine (leaf t r) (leaf u s) e = let h = words_determine r s (cc) in cc
words_determine (leaf t r) (tree l i s) e = absurd (omega (arith, ap (λ ws. get_or ws 0 0) e))
words_determine (tree l i r) end e = differ (cc)
words_determine (tree l i r) (leaf u s) e = absurd (omega (arith, ap (λ ws. get_or ws 0 0) e))
words_determine (tree l i r) (tree m j s) e =
    let p = words_parts i r j s (cc) (cc) in
    let h = words_determine i j p.0 in
    let k = words_determine r s p.1 in
    cc

same_words_equal : (xs ys : List ℕ) → same_words xs ys ≡ true → xs ≡ ys
unfolding same_words
same_words_equal [] [] e = refl
same_words_equal [] (y ∷ ys) e = never e
same_words_equal (x ∷ xs) [] e = never e
same_words_equal (x ∷ xs) (y ∷ ys) e =
    let p = both_true (eqb x y) (same_words xs ys) e in
    let h = eqb-true x y p.0 in
    let k = same_words_equal xs ys p.1 in
    cc

same_words_self : (xs : List ℕ) → same_words xs xs ≡ true
unfolding same_words
same_words_self [] = refl
same_words_self (x ∷ xs) = rw (eq-eqb x x refl) (same_words_self xs)

pub same_exact : (f g : Forest) → (same f g ≡ true) ↔ (f ≡ g)
same_exact f g = (λ e. words_determine f g (same_words_equal _ _ e), λ e. rw e (same_words_self (forest_words g)))
