-- The loops that choose trees: what stands there already and what is still to come.
-- Assumes nothing.
use mathlib.Core.Path.{◌≡◌, refl, sym, ap, subst, ◌∙◌}
use mathlib.Core.Bool.{Bool, true, false}
use mathlib.Core.List.{List}
use Prim.Native.Nat.{ℕ, ◌+◌, ◌*◌, ◌≤◌, ◌<◌}
use native.Mathlib.Omega.{arith}
use lib.ListN.{length, get_or}
use Rattle.meaning.specs.Forests.{Forest, end, leaf, tree, join, size, forest_words, select, below}
use Rattle.meaning.proofs.Forests.{join_end, join_assoc, size_join, below_join, select_join, words_determine}
use Rattle.spans.specs.Shows.{part}
use Rattle.copies.specs.Fills.{Made, first, stride_of, spread, Filled, Copied, done, Stretch}
use Rattle.std.specs.Prelude as Std
use Rattle.refusals.specs.declared.Refusal.{Refusal}
use Rattle.copies.proofs.Filling.{filled_one, filled_length, filled_self, copied_done, copied_full, full_is, copied_as}
use Rattle.copies.proofs.Firsts.{others, within, some, stretch_none, tree_size, tree_inside, tree_words, others_words, under_words}

-- the trees to look at when the first was
unfoldable next : Bool → Forest → Forest
next true f = join (within f) (others f)
next false f = others f

spread_none : (deep : Bool) → spread deep end ≡ end
unfolding spread below
spread_none true = refl
spread_none false = refl

spread_step : (deep : Bool) (f : Forest) → 0 < size f → spread deep f ≡ join (first f) (spread deep (next deep f))
unfolding spread next size first join within others below
spread_step deep end h = absurd (omega arith)
spread_step true (leaf t r) h = refl
spread_step true (tree l i r) h = ap (tree l i) (sym (below_join i r))
spread_step false (leaf t r) h = refl
spread_step false (tree l i r) h = refl

-- a copy that had no room for the first has none for all
pub full_more : (vs : List ℕ) {room : ℕ} {us : List ℕ} {n : ℕ} {x : Refusal} {h : Forest} (f g : Forest) → h ≡ join f g → Copied room us n (Std.Err x) f → Copied room vs n (Std.Err x) h
full_more vs f g p c = let d = copied_full refl c in full_is d.0 (omega (arith, d.1, ap size p, size_join f g))

-- what one tree more at the front leaves
abbrev Appends : List ℕ → List ℕ → List ℕ → ℕ → ℕ → ℕ → Made → Type 0
Appends ws rest us test top n r = (f g : Forest) → ws ≡ forest_words (first f) → Filled (length rest) rest top g → Copied (length rest) us n r (join g (select test (first f)))

-- CHOOSING trees from entries `from` to `to`: where the loop has come to
pub record Choosing (held : List ℕ) (from to test : ℕ) (deep : Bool) (start : List ℕ) (m : ℕ) (rest : List ℕ) (j top : ℕ) : Type 0 where
  pub source : Forest
  pub was : part held from to ≡ forest_words source
  pub before : Forest
  pub began : Filled (length start) start m before
  pub ordered : j ≤ to
  pub inside : 3 * to ≤ length held
  pub coming : Forest
  pub is : part held j to ≡ forest_words coming
  pub so_far : Forest
  pub filled : Filled (length start) rest top so_far
  pub goes : join before (select test (spread deep source)) ≡ join so_far (select test (spread deep coming))

module _ {held : List ℕ} {from to test : ℕ} {deep : Bool} {start : List ℕ} {m : ℕ} where
  pub choosing_start : Stretch held from to → (g : Forest) → Filled (length start) start m g → Choosing held from to test deep start m start from m
  choosing_start s g h =
      record { source = s.forest; was = s.is; before = g; began = h; ordered = s.ordered; inside = s.inside; coming = s.forest; is = s.is; so_far = g; filled = h; goes = refl }

  module _ {rest : List ℕ} {j top : ℕ} (c : Choosing held from to test deep start m rest j top) where
    -- whatever the caller takes the forests for, they are these
    pub choosing_same : {us : List ℕ} {n : ℕ} {r : Made} → Copied (length start) us n r (join c.before (select test (spread deep c.source))) → (f g : Forest) → part held from to ≡ forest_words f → Filled (length start) start m g → Copied (length start) us n r (join g (select test (spread deep f)))
    choosing_same {us} {n} {r} h f g p q =
        let a : f ≡ c.source = words_determine f c.source (sym p ∙ c.was) in
        let b : g ≡ c.before = filled_one c.began q in
        copied_as (ap (λ (x : Forest). join x (select test (spread deep f))) b ∙ ap (λ (x : Forest). join c.before (select test (spread deep x))) a) h

    pub choosing_end : to ≤ j → (n : ℕ) (f g : Forest) → part held from to ≡ forest_words f → Filled (length start) start m g → Copied (length start) rest n (Std.Ok top) (join g (select test (spread deep f)))
    unfolding select
    choosing_end h n =
        let e : join c.before (select test (spread deep c.source)) ≡ c.so_far = c.goes ∙ ap (λ (x : Forest). join c.so_far (select test (spread deep x))) (stretch_none held j to c.coming c.inside c.is h) ∙ ap (λ (x : Forest). join c.so_far (select test x)) (spread_none deep) ∙ join_end c.so_far in
        choosing_same (copied_as e (done c.filled))

    -- A TURN, at a tree of so many entries
    module _ (more : j < to) {size-there : ℕ} (there : size-there ≡ get_or held (3 * j + 2) 0 + 1) where
      pub turn_size : size-there ≡ size (first c.coming)
      turn_size = there ∙ tree_size held j to c.coming c.inside c.is more

      pub turn_inside : j + size-there ≤ to
      turn_inside = omega (arith, turn_size, tree_inside held j to c.coming c.inside c.is more)

      pub turn_some : 0 < size-there
      turn_some = omega (arith, there)

      pub turn_words : part held j (j + size-there) ≡ forest_words (first c.coming)
      turn_words = ap (λ (s : ℕ). part held j (j + s)) turn_size ∙ tree_words held j to c.coming c.inside c.is more

      goes_on : join c.before (select test (spread deep c.source)) ≡ join (join c.so_far (select test (first c.coming))) (select test (spread deep (next deep c.coming)))
      goes_on =
          c.goes
          ∙ ap (λ (x : Forest). join c.so_far (select test x)) (spread_step deep c.coming (some held j to c.coming c.inside c.is more))
          ∙ ap (join c.so_far) (select_join test (first c.coming) (spread deep (next deep c.coming)))
          ∙ sym (join_assoc c.so_far (select test (first c.coming)) (select test (spread deep (next deep c.coming))))

      turn_copied : {us : List ℕ} {n : ℕ} {r : Made} → Appends (part held j (j + size-there)) rest us test top n r → Copied (length start) us n r (join c.so_far (select test (first c.coming)))
      turn_copied {us} {n} {r} a =
          subst (λ (l : ℕ). Copied l us n r (join c.so_far (select test (first c.coming)))) (filled_length c.filled) (a c.coming c.so_far turn_words (filled_self c.filled))

      pub turn_full : (vs : List ℕ) {us : List ℕ} {n : ℕ} {x : Refusal} → Appends (part held j (j + size-there)) rest us test top n (Std.Err x) → (f g : Forest) → part held from to ≡ forest_words f → Filled (length start) start m g → Copied (length start) vs n (Std.Err x) (join g (select test (spread deep f)))
      turn_full vs a = choosing_same (full_more vs _ _ goes_on (turn_copied a))

      next_words : (d : Bool) → part held (j + stride_of d size-there) to ≡ forest_words (next d c.coming)
      unfolding next stride_of
      next_words true = under_words held j to c.coming c.inside c.is more
      next_words false = ap (λ (s : ℕ). part held (j + s) to) turn_size ∙ others_words held j to c.coming c.inside c.is more

      pub stride_some : (d : Bool) → 0 < stride_of d size-there
      unfolding stride_of
      stride_some true = omega arith
      stride_some false = turn_some

      pub stride_inside : (d : Bool) → j + stride_of d size-there ≤ to
      unfolding stride_of
      stride_inside true = omega arith
      stride_inside false = turn_inside

      pub turn_next : {us : List ℕ} {n k s : ℕ} → Appends (part held j (j + size-there)) rest us test top n (Std.Ok k) → s ≡ stride_of deep size-there → Choosing held from to test deep start m us (j + s) k
      turn_next {us} {k = k} {s} a p =
          subst (λ (x : ℕ). Choosing held from to test deep start m us (j + x) k) (sym p) (record { source = c.source; was = c.was; before = c.before; began = c.began; ordered = stride_inside deep; inside = c.inside; coming = next deep c.coming; is = next_words deep; so_far = join c.so_far (select test (first c.coming)); filled = copied_done refl (turn_copied a); goes = goes_on })
