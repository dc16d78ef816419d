-- The class of an entry from those of its parts, for each kind; of an entry of a table, and of one that is appended.
-- Assumes nothing.
use mathlib.Core.Path.{◌≡◌, refl, sym, ap, ◌∙◌}
use mathlib.Core.Bool.{false}
use mathlib.Core.Option.{none}
use mathlib.Core.List.{List, [], ◌∷◌, ◌++◌}
use Prim.Native.Nat.{ℕ, ◌<◌}
use native.Mathlib.Omega.{arith}
use lib.ListN.{length, get_or, length-append}
use Rattle.meaning.specs.Base.{first, later}
use Rattle.meaning.specs.Types as Types
use Rattle.meaning.specs.Types.{Entry, Table, Defs, entry_of, name_of, at}
use Rattle.meaning.specs.Reach.{steps_of}
use Rattle.meaning.specs.Formed.{Lower, Formed}
use Rattle.meaning.specs.Shapes.{Class, one, maybe, more, any, allowing, either, comma, bar, dot, expand, shape, quant}
use Rattle.meaning.proofs.Lists.{absurd_option, at_get_or, at_last, grows_one}
use Rattle.meaning.proofs.Guard.{Goes, part, defn, lower_goes}
use Rattle.meaning.proofs.Shapes.{shape_law, shape_grows}
use Rattle.meaning.proofs.Grow.{formed_append}
use Rattle.classes.specs.Classes.{code_of, class_of, Right, Filled, Parts, From}

-- CODES
pub class_code : (q : Class) → class_of (code_of q) ≡ q
unfolding code_of class_of allowing
class_code one = refl
class_code maybe = refl
class_code more = refl
class_code any = refl

-- the class that a word means
pub of_code : {x : ℕ} (p : Class) → x ≡ code_of p → class_of x ≡ p
of_code p h = ap class_of h ∙ class_code p

pub code_more : (q : Class) → code_of q ≡ 3 → q ≡ more
unfolding class_of allowing
code_more q p = sym (of_code q (sym p))

-- KIND BY KIND, where p and q are the classes that the parts' words mean
module _ {cs : List ℕ} where
  pub from_empty : From cs Types.empty (code_of maybe)
  unfolding expand quant
  from_empty = record { is = λ D T e n h. refl }

  pub from_string : From cs Types.string (code_of one)
  unfolding expand quant
  from_string = record { is = λ D T e n h. refl }

  pub from_element : {l c : ℕ} → From cs (Types.element l c) (code_of one)
  unfolding expand quant
  from_element = record { is = λ D T e n h. refl }

  -- a name has no class of its own
  pub from_name : {d : ℕ} (r : ℕ) → From cs (Types.name d) r
  unfolding name_of
  from_name r = record { is = λ D T e n. absurd_option (sym n) }

  module _ {a : ℕ} {p : Class} (first_is : p ≡ class_of (get_or cs a 0)) where
    pub from_star : {r : Class} → r ≡ either p any → From cs (Types.star a) (code_of r)
    unfolding expand quant steps_of dot
    from_star q = record { is = λ D T e n h. ap code_of (q ∙ ap (λ c. either c any) (first_is ∙ of_code _ (h a first))) }

    pub from_plus : {r : Class} → r ≡ either p more → From cs (Types.plus a) (code_of r)
    unfolding expand quant steps_of dot
    from_plus q = record { is = λ D T e n h. ap code_of (q ∙ ap (λ c. either c more) (first_is ∙ of_code _ (h a first))) }

    pub from_opt : {r : Class} → r ≡ either p maybe → From cs (Types.opt a) (code_of r)
    unfolding expand quant steps_of dot
    from_opt q = record { is = λ D T e n h. ap code_of (q ∙ ap (λ c. either c maybe) (first_is ∙ of_code _ (h a first))) }

    module _ {b : ℕ} {o : Class} (second_is : o ≡ class_of (get_or cs b 0)) where
      pub from_pair : {r : Class} → r ≡ comma p o → From cs (Types.pair a b) (code_of r)
      unfolding expand quant steps_of
      from_pair q = record { is = λ D T e n h. ap code_of (q ∙ (λ i. comma ((first_is ∙ of_code _ (h a first)) i) ((second_is ∙ of_code _ (h b (later first))) i))) }

      pub from_union : {r : Class} → r ≡ either p o → From cs (Types.union a b) (code_of r)
      unfolding expand quant steps_of bar
      from_union q = record { is = λ D T e n h. ap code_of (q ∙ (λ i. either ((first_is ∙ of_code _ (h a first)) i) ((second_is ∙ of_code _ (h b (later first))) i))) }

-- AN ENTRY OF A TABLE
module _ (D : Defs) (T : Table) (F : Formed D T) (cs : List ℕ) (e : ℕ) (l : e < length T) where
  law : (x : Entry) → x ≡ at T e → code_of (quant (expand D e (λ i. shape D T i) x)) ≡ code_of (quant (shape D T e))
  law x q = rw (q, shape_law D T F e l)

  pub class_plain : (x : Entry) (r : ℕ) → x ≡ at T e → name_of x ≡ none → From cs x r → Parts D T cs (at T e) → r ≡ code_of (quant (shape D T e))
  class_plain x r q n h parts = h.is D T e n (rw q parts) ∙ law x q

  pub class_name : (d : ℕ) → Types.name d ≡ at T e → Parts D T cs (at T e) → get_or cs (get_or D d 0) 0 ≡ code_of (quant (shape D T e))
  unfolding expand quant steps_of
  class_name d q parts = parts (get_or D d 0) (rw (← q) first) ∙ law (Types.name d) q

-- AN ENTRY THAT IS APPENDED
module _ (D : Defs) (T : Table) (F : Formed D T) (cs : List ℕ) (filled : Filled D T cs) (x : Entry) (low : Lower (length T) x) (bare : name_of x ≡ none) (few : length T < 4096) where
  abbrev U : Table
  U = T ++ (x ∷ [])

  -- what stands in it stands before it
  kept : (i : ℕ) → Goes D x (length T) i → Right D U cs i
  unfolding name_of
  kept i (part h) = rw (shape_grows F (grows_one T x) h) (filled.right i h)
  kept i (defn d p q) = absurd_option (sym bare ∙ ap name_of p)

  pub class_appended : (r : ℕ) → From cs x r → r ≡ code_of (quant (shape D U (length T)))
  class_appended r h =
      class_plain D U (formed_append D T F few x low bare) cs (length T) (omega (arith, length-append T (x ∷ []))) x r
      (sym (at_get_or (at_last T x) Types.empty)) bare h
      (rw (at_get_or (at_last T x) Types.empty) λ i j. kept i (lower_goes false D i low j))
