-- The first tree of a forest: what stands inside it and behind it, and their stretches of a table.
-- Assumes nothing.
use mathlib.Core.Path.{◌≡◌, refl, sym, ap, ◌∙◌}
use mathlib.Core.Bool.{Bool, true, false, not}
use mathlib.Core.List.{List, [], ◌∷◌, ◌++◌, append-nil}
use Prim.Native.Nat.{ℕ, ◌+◌, ◌*◌, ◌-◌, ◌/◌, ◌≤◌, ◌<◌}
use native.Mathlib.Omega.{arith}
use lib.ListN.{length, get_or, take}
use lib.Seq.{take_all}
use Rattle.meaning.specs.Forests.{Forest, end, leaf, tree, Head, text, label, passes, keep, select, join, size, forest_words}
use Rattle.meaning.proofs.Lists.{never}
use Rattle.meaning.proofs.Forests.{join_end, size_join, words_join, length_words}
use Rattle.spans.specs.Shows.{part}
use Rattle.spans.proofs.Parts.{part_length, part_at, part_front, part_behind}
use Rattle.copies.specs.Fills.{head_in, first, Stretch, Trees}

-- the trees behind the first, those inside it, and its entry
unfoldable pub others : Forest → Forest
others end = end
others (leaf t r) = r
others (tree l i r) = r

unfoldable pub within : Forest → Forest
within end = end
within (leaf t r) = end
within (tree l i r) = i

unfoldable pub entry : Forest → List ℕ
entry end = []
entry (leaf t r) = 64 ∷ t ∷ 0 ∷ []
entry (tree l i r) = 65 ∷ l ∷ size i ∷ []

pub first_others : (f : Forest) → join (first f) (others f) ≡ f
unfolding first others join
first_others end = refl
first_others (leaf t r) = refl
first_others (tree l i r) = refl

pub size_none : (f : Forest) → size f ≡ 0 → f ≡ end
unfolding size
size_none end e = refl
size_none (leaf t r) e = absurd (omega arith)
size_none (tree l i r) e = absurd (omega arith)

pub first_size : (f : Forest) → 0 < size f → size (first f) ≡ size (within f) + 1
unfolding size first within
first_size end h = absurd (omega arith)
first_size (leaf t r) h = refl
first_size (tree l i r) h = omega arith

entry_length : (f : Forest) → 0 < size f → length (entry f) ≡ 3
unfolding size entry
entry_length end h = absurd (omega arith)
entry_length (leaf t r) h = refl
entry_length (tree l i r) h = refl

entry_size : (f : Forest) → 0 < size f → get_or (forest_words f) 2 0 ≡ size (within f)
unfolding size forest_words within
entry_size end h = absurd (omega arith)
entry_size (leaf t r) h = refl
entry_size (tree l i r) h = refl

words_first : (f : Forest) → forest_words (first f) ≡ entry f ++ forest_words (within f)
unfolding first forest_words entry within
words_first end = refl
words_first (leaf t r) = refl
words_first (tree l i r) = ap (λ (ws : List ℕ). 65 ∷ l ∷ size i ∷ ws) (append-nil (forest_words i))

words_under : (f : Forest) → forest_words f ≡ entry f ++ forest_words (join (within f) (others f))
unfolding forest_words entry within others join
words_under end = refl
words_under (leaf t r) = refl
words_under (tree l i r) = ap (λ (ws : List ℕ). 65 ∷ l ∷ size i ∷ ws) (sym (words_join i r))

-- WHETHER IT PASSES, by the first two words of its entry
select_head : (w : ℕ) (f : Forest) → 0 < size f → select w (first f) ≡ keep (passes w (head_in (get_or (forest_words (first f)) 0 0) (get_or (forest_words (first f)) 1 0))) (first f)
unfolding size first select forest_words head_in
select_head w end h = absurd (omega arith)
select_head w (leaf t r) h = join_end (keep (passes w text) (leaf t end))
select_head w (tree l i r) h = join_end (keep (passes w (label l)) (tree l i end))

keep_not : (b : Bool) (f : Forest) → not b ≡ true → keep b f ≡ end
keep_not true f e = never e
keep_not false f e = refl

keep_so : (b : Bool) (f : Forest) → not b ≡ false → keep b f ≡ f
keep_so true f e = refl
keep_so false f e = never (sym e)

module _ (w : ℕ) (f : Forest) {ws : List ℕ} (is : ws ≡ forest_words (first f)) (long : 3 ≤ length ws) {h : Head} (head : h ≡ head_in (get_or ws 0 0) (get_or ws 1 0)) {b : Bool} (told : b ≡ passes w h) where
  selected : select w (first f) ≡ keep b (first f)
  selected =
      select_head w f (omega (arith, ap length is, length_words (first f), ap size (first_others f), size_join (first f) (others f)))
      ∙ ap (λ (x : List ℕ). keep (passes w (head_in (get_or x 0 0) (get_or x 1 0))) (first f)) (sym is)
      ∙ ap (λ (x : Head). keep (passes w x) (first f)) (sym head)
      ∙ ap (λ (x : Bool). keep x (first f)) (sym told)

  pub select_not : not b ≡ true → select w (first f) ≡ end
  select_not e = selected ∙ keep_not b (first f) e

  pub select_so : not b ≡ false → select w (first f) ≡ first f
  select_so e = selected ∙ keep_so b (first f) e

-- THE WHOLE of a forest's words is a stretch
pub whole_part : (ws : List ℕ) (f : Forest) → ws ≡ forest_words f → part ws 0 (length ws / 3) ≡ forest_words f
unfolding part
whole_part ws f e =
    let n : 3 * (length ws / 3) - 3 * 0 ≡ length ws = omega (arith, ap length e, length_words f) in
    ap (λ (k : ℕ). take k ws) n ∙ take_all (length ws) ws (omega arith) ∙ e

pub whole_stretch : {ws : List ℕ} → Trees ws → Stretch ws 0 (length ws / 3)
whole_stretch {ws} t = record { ordered = omega arith; inside = omega arith; forest = t.forest; is = whole_part ws t.forest t.is }

-- ITS STRETCHES in a table
module _ (held : List ℕ) (j e : ℕ) (f : Forest) (inside : 3 * e ≤ length held) (is : part held j e ≡ forest_words f) where
  pub stretch_size : size f ≡ e - j
  stretch_size = omega (arith, length_words f, ap length is, part_length held j e inside)

  pub stretch_none : e ≤ j → f ≡ end
  stretch_none h = size_none f (omega (arith, stretch_size))

  module _ (more : j < e) where
    pub some : 0 < size f
    some = omega (arith, stretch_size)

    pub tree_size : get_or held (3 * j + 2) 0 + 1 ≡ size (first f)
    tree_size = omega (arith, part_at held j e 2 (omega arith), ap (λ (ws : List ℕ). get_or ws 2 0) is, entry_size f some, first_size f some)

    pub tree_inside : j + size (first f) ≤ e
    tree_inside = omega (arith, stretch_size, ap size (first_others f), size_join (first f) (others f))

    whole : part held j e ≡ forest_words (first f) ++ forest_words (others f)
    whole = is ∙ ap forest_words (sym (first_others f)) ∙ words_join (first f) (others f)

    pub tree_words : part held j (j + size (first f)) ≡ forest_words (first f)
    tree_words = part_front held j (size (first f)) e (forest_words (first f)) (forest_words (others f)) whole (length_words (first f)) tree_inside

    pub others_words : part held (j + size (first f)) e ≡ forest_words (others f)
    others_words = part_behind held j (size (first f)) e (forest_words (first f)) (forest_words (others f)) whole (length_words (first f)) tree_inside

    pub under_words : part held (j + 1) e ≡ forest_words (join (within f) (others f))
    under_words = part_behind held j 1 e (entry f) (forest_words (join (within f) (others f))) (is ∙ words_under f) (entry_length f some) (omega arith)

    pub within_words : part held (j + 1) (j + size (first f)) ≡ forest_words (within f)
    within_words = part_behind held j 1 (j + size (first f)) (entry f) (forest_words (within f)) (tree_words ∙ words_first f) (entry_length f some) (omega (arith, first_size f some))
