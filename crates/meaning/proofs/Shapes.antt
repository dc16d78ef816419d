-- `deepest` is deep enough: in a formed table an entry's shape is what `expand` makes of its parts' shapes, kind by kind, and is the shape that the
-- relation `Shaped` gives it. Entries appended change no shape. A name does its definition.
-- Assumes nothing.
use mathlib.Core.Path.{◌≡◌, refl, ap, ap₂, ◌∙◌}
use mathlib.Core.Bool.{false}
use Prim.Native.Nat.{ℕ, zero, suc, ◌<◌}
use native.Mathlib.Omega.{arith}
use lib.ListN.{length, get_or}
use Rattle.meaning.specs.Base.{At, In, first, later}
use Rattle.meaning.specs.Types as Types
use Rattle.meaning.specs.Types.{Entry, Table, Defs, at}
use Rattle.meaning.specs.Reach.{steps_of}
use Rattle.meaning.specs.Formed.{Formed}
use Rattle.meaning.specs.Shapes.{Shape, empty, string, element, pair, union, star, plus, opt, name, expand, shape_in, shape, deepest, quant}
use Rattle.meaning.specs.Rules.{prime, sift}
use Rattle.meaning.proofs.Lists.{at_low, at_get_or, at_is, Grows, at_grows}
use Rattle.meaning.proofs.Guard.{height, height_falls, height_most, steps_low, name_at}
use Rattle.meaning.proofs.Shaped.{Shaped, is_empty, is_string, is_element, is_pair, is_union, is_star, is_plus, is_opt, is_name}

-- what `expand` makes depends only on the parts
pub expand_alike : (D : Defs) (e : ℕ) (f g : ℕ → Shape) (x : Entry) → ((i : ℕ) → In i (steps_of false D x) → f i ≡ g i) → expand D e f x ≡ expand D e g x
unfolding expand steps_of
expand_alike D e f g Types.empty h = refl
expand_alike D e f g Types.string h = refl
expand_alike D e f g (Types.element l c) h = refl
expand_alike D e f g (Types.pair a b) h = ap₂ pair (h a first) (h b (later first))
expand_alike D e f g (Types.union a b) h = ap₂ union (h a first) (h b (later first))
expand_alike D e f g (Types.star a) h = ap star (h a first)
expand_alike D e f g (Types.plus a) h = ap plus (h a first)
expand_alike D e f g (Types.opt a) h = ap opt (h a first)
expand_alike D e f g (Types.name d) h = ap name (h (get_or D d 0) first)

module _ (D : Defs) (T : Table) (F : Formed D T) where
  law_in : (k e : ℕ) → e < length T → height D T e < k → shape_in k D T e ≡ expand D e (λ i. shape_in k D T i) (at T e)
  unfolding shape_in
  law_in zero e l h = absurd (omega arith)
  law_in (suc k) e l h =
      expand_alike D e (λ i. shape_in k D T i) (λ i. shape_in (suc k) D T i) (at T e)
      (λ i a. law_in k i (steps_low D T F false e i l a) (omega (arith, height_falls D T F e i l a)))

  -- an entry's shape is what `expand` makes of its parts' shapes
  pub shape_law : (e : ℕ) → e < length T → shape D T e ≡ expand D e (λ i. shape D T i) (at T e)
  shape_law e l = law_in deepest e l (height_most D T F e l)

module _ {D : Defs} {T : Table} (F : Formed D T) {e : ℕ} where
  law_of : {x : Entry} → At T e x → shape D T e ≡ expand D e (λ i. shape D T i) x
  law_of h = rw (at_get_or h Types.empty) at (shape_law D T F e (at_low h))

  pub shape_empty : At T e Types.empty → shape D T e ≡ empty e
  unfolding expand
  shape_empty h = law_of h

  pub shape_string : At T e Types.string → shape D T e ≡ string e
  unfolding expand
  shape_string h = law_of h

  pub shape_element : {l c : ℕ} → At T e (Types.element l c) → shape D T e ≡ element e l c
  unfolding expand
  shape_element h = law_of h

  pub shape_pair : {a b : ℕ} → At T e (Types.pair a b) → shape D T e ≡ pair (shape D T a) (shape D T b)
  unfolding expand
  shape_pair h = law_of h

  pub shape_union : {a b : ℕ} → At T e (Types.union a b) → shape D T e ≡ union (shape D T a) (shape D T b)
  unfolding expand
  shape_union h = law_of h

  pub shape_star : {a : ℕ} → At T e (Types.star a) → shape D T e ≡ star (shape D T a)
  unfolding expand
  shape_star h = law_of h

  pub shape_plus : {a : ℕ} → At T e (Types.plus a) → shape D T e ≡ plus (shape D T a)
  unfolding expand
  shape_plus h = law_of h

  pub shape_opt : {a : ℕ} → At T e (Types.opt a) → shape D T e ≡ opt (shape D T a)
  unfolding expand
  shape_opt h = law_of h

  pub shape_name : {d c : ℕ} → At T e (Types.name d) → At D d c → shape D T e ≡ name (shape D T c)
  unfolding expand
  shape_name h k = rw (at_get_or k 0) at (law_of h)

module _ (D : Defs) (T : Table) (F : Formed D T) where
  expand_shaped : (e : ℕ) (f : ℕ → Shape) (x : Entry) → At T e x → ((i : ℕ) → In i (steps_of false D x) → Shaped D T i (f i)) → Shaped D T e (expand D e f x)
  unfolding expand steps_of
  expand_shaped e f Types.empty t h = is_empty t
  expand_shaped e f Types.string t h = is_string t
  expand_shaped e f (Types.element l c) t h = is_element t
  expand_shaped e f (Types.pair a b) t h = is_pair t (h a first) (h b (later first))
  expand_shaped e f (Types.union a b) t h = is_union t (h a first) (h b (later first))
  expand_shaped e f (Types.star a) t h = is_star t (h a first)
  expand_shaped e f (Types.plus a) t h = is_plus t (h a first)
  expand_shaped e f (Types.opt a) t h = is_opt t (h a first)
  expand_shaped e f (Types.name d) t h = is_name t (name_at D T F e d t) (h (get_or D d 0) first)

  shaped_in : (k e : ℕ) → e < length T → height D T e < k → Shaped D T e (shape_in k D T e)
  unfolding shape_in
  shaped_in zero e l h = absurd (omega arith)
  shaped_in (suc k) e l h =
      expand_shaped e (λ i. shape_in k D T i) (at T e) (at_is T e Types.empty l)
      (λ i a. shaped_in k i (steps_low D T F false e i l a) (omega (arith, height_falls D T F e i l a)))

  pub shape_shaped : (e : ℕ) → e < length T → Shaped D T e (shape D T e)
  shape_shaped e l = shaped_in deepest e l (height_most D T F e l)

-- it is the only one
pub shaped_shape : {D : Defs} {T : Table} {e : ℕ} {s : Shape} → Formed D T → Shaped D T e s → shape D T e ≡ s
shaped_shape F (is_empty h) = shape_empty F h
shaped_shape F (is_string h) = shape_string F h
shaped_shape F (is_element h) = shape_element F h
shaped_shape F (is_pair h p q) = shape_pair F h ∙ ap₂ pair (shaped_shape F p) (shaped_shape F q)
shaped_shape F (is_union h p q) = shape_union F h ∙ ap₂ union (shaped_shape F p) (shaped_shape F q)
shaped_shape F (is_star h p) = shape_star F h ∙ ap star (shaped_shape F p)
shaped_shape F (is_plus h p) = shape_plus F h ∙ ap plus (shaped_shape F p)
shaped_shape F (is_opt h p) = shape_opt F h ∙ ap opt (shaped_shape F p)
shaped_shape F (is_name h d p) = shape_name F h d ∙ ap name (shaped_shape F p)

module _ {D : Defs} {T U : Table} (F : Formed D T) (G : Grows T U) where
  grows_in : (k e : ℕ) → e < length T → shape_in k D U e ≡ shape_in k D T e
  unfolding shape_in
  grows_in zero e l = refl
  grows_in (suc k) e l =
      rw (at_get_or (at_grows G (at_is T e Types.empty l)) Types.empty)
      (expand_alike D e (λ i. shape_in k D U i) (λ i. shape_in k D T i) (at T e) (λ i a. grows_in k i (steps_low D T F false e i l a)))

  -- entries appended change no shape
  pub shape_grows : {e : ℕ} → e < length T → shape D U e ≡ shape D T e
  shape_grows {e} l = grows_in deepest e l

-- "a name its definition's", "a name its definition", "a name does its definition": quant, prime and filter
module _ {D : Defs} {T : Table} (F : Formed D T) {e d c : ℕ} (h : At T e (Types.name d)) (k : At D d c) where
  pub quant_name : quant (shape D T e) ≡ quant (shape D T c)
  unfolding quant
  quant_name = ap quant (shape_name F h k)

  pub prime_name : (room n : ℕ) → prime room n (shape D T e) ≡ prime room n (shape D T c)
  unfolding prime
  prime_name room n = ap (prime room n) (shape_name F h k)

  pub filter_name : (room n w : ℕ) → sift room n w (shape D T e) ≡ sift room n w (shape D T c)
  unfolding sift
  filter_name room n w = ap (sift room n w) (shape_name F h k)
