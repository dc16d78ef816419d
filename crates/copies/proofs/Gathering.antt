-- The loop that gathers the trees inside those of a stretch: what stands there already and what is still to come.
-- Assumes nothing.
use mathlib.Core.Path.{◌≡◌, refl, sym, ap, subst, ◌∙◌}
use mathlib.Core.Bool.{false}
use mathlib.Core.List.{List}
use Prim.Native.Nat.{ℕ, ◌+◌, ◌*◌, ◌≤◌, ◌<◌}
use native.Mathlib.Omega.{arith}
use lib.ListN.{length, get_or}
use Rattle.meaning.specs.Base.{zeros}
use Rattle.meaning.specs.Forests.{Forest, end, leaf, tree, join, size, forest_words, select, children}
use Rattle.meaning.proofs.Forests.{join_end, join_assoc, select_join, words_determine}
use Rattle.spans.specs.Shows.{part}
use Rattle.copies.specs.Fills.{Made, first, spread, Filled, Copied, done, Stretch}
use Rattle.std.specs.Prelude as Std
use Rattle.refusals.specs.declared.Refusal.{Refusal}
use Rattle.copies.proofs.Filling.{filled_none, filled_length, filled_self, copied_done, copied_as}
use Rattle.copies.proofs.Firsts.{others, within, some, stretch_none, tree_size, tree_inside, others_words, within_words}
use Rattle.copies.proofs.Choosing.{full_more}

children_step : (f : Forest) → 0 < size f → children f ≡ join (within f) (children (others f))
unfolding size children join within others
children_step end h = absurd (omega arith)
children_step (leaf t r) h = refl
children_step (tree l i r) h = refl

-- what the trees inside one leave
abbrev Inner : List ℕ → ℕ → ℕ → List ℕ → List ℕ → ℕ → ℕ → ℕ → Made → Type 0
Inner held a e rest us test top n r = (f g : Forest) → part held a e ≡ forest_words f → Filled (length rest) rest top g → Copied (length rest) us n r (join g (select test (spread false f)))

pub record Gathering (held : List ℕ) (from to test room : ℕ) (rest : List ℕ) (j top : ℕ) : Type 0 where
  pub source : Forest
  pub was : part held from to ≡ forest_words source
  pub ordered : j ≤ to
  pub inside : 3 * to ≤ length held
  pub coming : Forest
  pub is : part held j to ≡ forest_words coming
  pub so_far : Forest
  pub filled : Filled room rest top so_far
  pub goes : select test (children source) ≡ join so_far (select test (children coming))

module _ {held : List ℕ} {from to test room : ℕ} where
  pub gathering_start : {rest : List ℕ} → Stretch held from to → rest ≡ zeros room → Gathering held from to test room rest from 0
  unfolding join
  gathering_start s b = record { source = s.forest; was = s.is; ordered = s.ordered; inside = s.inside; coming = s.forest; is = s.is; so_far = end; filled = filled_none b; goes = refl }

  module _ {rest : List ℕ} {j top : ℕ} (c : Gathering held from to test room rest j top) where
    gathering_same : {us : List ℕ} {n : ℕ} {r : Made} → Copied room us n r (select test (children c.source)) → (f : Forest) → part held from to ≡ forest_words f → Copied room us n r (select test (children f))
    gathering_same h f p = copied_as (ap (λ (x : Forest). select test (children x)) (words_determine f c.source (sym p ∙ c.was))) h

    pub gathering_end : to ≤ j → (n : ℕ) (f : Forest) → part held from to ≡ forest_words f → Copied room rest n (Std.Ok top) (select test (children f))
    unfolding select children
    gathering_end h n =
        let e : select test (children c.source) ≡ c.so_far = c.goes ∙ ap (λ (x : Forest). join c.so_far (select test (children x))) (stretch_none held j to c.coming c.inside c.is h) ∙ join_end c.so_far in
        gathering_same (copied_as e (done c.filled))

    -- A TURN, at a tree that ends at entry next
    module _ (more : j < to) {next : ℕ} (there : next ≡ j + 1 + get_or held (3 * j + 2) 0) where
      next_is : next ≡ j + size (first c.coming)
      next_is = omega (arith, there, tree_size held j to c.coming c.inside c.is more)

      pub inner_ends : (j < next) × (next ≤ to)
      inner_ends = (omega (arith, there), omega (arith, next_is, tree_inside held j to c.coming c.inside c.is more))

      inner_words : part held (j + 1) next ≡ forest_words (within c.coming)
      inner_words = ap (λ (e : ℕ). part held (j + 1) e) next_is ∙ within_words held j to c.coming c.inside c.is more

      pub inner_stretch : Stretch held (j + 1) next
      inner_stretch = record { ordered = omega (arith, inner_ends.0); inside = omega (arith, inner_ends.1, c.inside); forest = within c.coming; is = inner_words }

      goes_on : select test (children c.source) ≡ join (join c.so_far (select test (spread false (within c.coming)))) (select test (children (others c.coming)))
      unfolding spread
      goes_on =
          c.goes
          ∙ ap (λ (x : Forest). join c.so_far (select test x)) (children_step c.coming (some held j to c.coming c.inside c.is more))
          ∙ ap (join c.so_far) (select_join test (within c.coming) (children (others c.coming)))
          ∙ sym (join_assoc c.so_far (select test (within c.coming)) (select test (children (others c.coming))))

      inner_copied : {us : List ℕ} {n : ℕ} {r : Made} → Inner held (j + 1) next rest us test top n r → Copied room us n r (join c.so_far (select test (spread false (within c.coming))))
      inner_copied {us} {n} {r} a =
          subst (λ (l : ℕ). Copied l us n r (join c.so_far (select test (spread false (within c.coming))))) (filled_length c.filled) (a (within c.coming) c.so_far inner_words (filled_self c.filled))

      pub inner_full : (vs : List ℕ) {us : List ℕ} {n : ℕ} {x : Refusal} → Inner held (j + 1) next rest us test top n (Std.Err x) → (f : Forest) → part held from to ≡ forest_words f → Copied room vs n (Std.Err x) (select test (children f))
      inner_full vs a = gathering_same (full_more vs _ _ goes_on (inner_copied a))

      pub inner_next : {us : List ℕ} {n k : ℕ} → Inner held (j + 1) next rest us test top n (Std.Ok k) → Gathering held from to test room us next k
      inner_next a =
          record { source = c.source; was = c.was; ordered = inner_ends.1; inside = c.inside; coming = others c.coming; is = ap (λ (i : ℕ). part held i to) next_is ∙ others_words held j to c.coming c.inside c.is more; so_far = join c.so_far (select test (spread false (within c.coming))); filled = copied_done refl (inner_copied a); goes = goes_on }
