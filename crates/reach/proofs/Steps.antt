-- What stands directly in a type that was read; that it lies in the table of marks; and that a table which typing keeps is so, by the definitions in use and
-- by the table that begins with them.
-- Assumes nothing.
use mathlib.Core.Path.{◌≡◌, refl, sym, ap, subst, ◌∙◌}
use mathlib.Core.Logic.{◌⊎◌, inl, inr}
use mathlib.Core.Bool.{true}
use mathlib.Core.List.{List, [], ◌∷◌}
use mathlib.Core.Option.{some}
use Prim.Native.Nat.{ℕ, zero, suc, ◌<◌, ◌≤◌}
use native.Mathlib.Omega.{arith}
use lib.ListN.{length, get_or, take}
use lib.Seq.{get_or-take, length-take-le, take-length}
use Rattle.meaning.specs.Base.{At, In, first, later}
use Rattle.meaning.specs.Types as Types
use Rattle.meaning.specs.Types.{Entry, Table, Defs, name_of, at}
use Rattle.meaning.specs.Reach.{steps_of}
use Rattle.meaning.specs.Formed as Formed
use Rattle.meaning.specs.Formed.{Lower, Formed}
use Rattle.meaning.proofs.Lists.{absurd_option, at_is, at_get_or, in_cons, in_none}
use Rattle.entries.specs.Says.{shown}
use Rattle.entries.specs.declared.Ty.{Ty}
use Rattle.reach.specs.Marks.{Within, Given}

-- BY THE TYPE that was read
module _ (D : Defs) {x : Ty} where
  pub steps_none : (x ≡ Ty.Empty) ⊎ (x ≡ Ty.Text) → steps_of true D (shown x) ≡ []
  unfolding steps_of
  steps_none (inl p) = rw p refl
  steps_none (inr p) = rw p refl

  pub steps_element : {l c : ℕ} → x ≡ Ty.Element l c → steps_of true D (shown x) ≡ c ∷ []
  unfolding steps_of
  steps_element p = rw p refl

  pub steps_two : {a b : ℕ} → (x ≡ Ty.Pair a b) ⊎ (x ≡ Ty.Union a b) → steps_of true D (shown x) ≡ a ∷ b ∷ []
  unfolding steps_of
  steps_two (inl p) = rw p refl
  steps_two (inr p) = rw p refl

  pub steps_one : {a : ℕ} → (x ≡ Ty.Star a) ⊎ ((x ≡ Ty.Plus a) ⊎ (x ≡ Ty.Opt a)) → steps_of true D (shown x) ≡ a ∷ []
  unfolding steps_of
  steps_one (inl p) = rw p refl
  steps_one (inr (inl p)) = rw p refl
  steps_one (inr (inr p)) = rw p refl

  pub steps_name : {d : ℕ} → x ≡ Ty.Name d → steps_of true D (shown x) ≡ get_or D d 0 ∷ []
  unfolding steps_of
  steps_name p = rw p refl

-- WHAT IS MARKED lies in the table
module _ {n : ℕ} {D : Defs} {x : Entry} (w : Within n D x) where
  pub within_one : {a : ℕ} → steps_of true D x ≡ a ∷ [] → a < n
  within_one {a} p = w.parts a (rw p first)

  pub within_two : {a b : ℕ} → steps_of true D x ≡ a ∷ b ∷ [] → (a < n) × (b < n)
  within_two {a} {b} p = (w.parts a (rw p first), w.parts b (rw p (later first)))

  -- and in a longer one
  pub within_more : {m : ℕ} → n ≤ m → Within m D x
  within_more h = record { parts = λ i s. omega (arith, w.parts i s); named = w.named }

pub within_name : {n : ℕ} {D : Defs} {x : Ty} {d : ℕ} → Within n D (shown x) → x ≡ Ty.Name d → d < length D
unfolding name_of
within_name {d = d} w p = w.named d (rw p refl)

-- WHAT IS GIVEN is so: an entry of a formed table
named_is : (x : Entry) (d : ℕ) → name_of x ≡ some d → x ≡ Types.name d
unfolding name_of
named_is Types.empty d p = absurd_option p
named_is Types.string d p = absurd_option p
named_is (Types.element l c) d p = absurd_option p
named_is (Types.pair a b) d p = absurd_option p
named_is (Types.union a b) d p = absurd_option p
named_is (Types.star a) d p = absurd_option p
named_is (Types.plus a) d p = absurd_option p
named_is (Types.opt a) d p = absurd_option p
named_is (Types.name c) d p = cc

module _ {D : Defs} {T : Table} (f : Formed D T) where
  lower_parts : {e : ℕ} {x : Entry} → e < length T → At T e x → Lower e x → (i : ℕ) → In i (steps_of true D x) → i < length T
  unfolding steps_of
  lower_parts l a (Formed.element p q r) = in_cons (omega arith) (λ i. in_none)
  lower_parts l a (Formed.pair p q) = in_cons (omega arith) (in_cons (omega arith) (λ i. in_none))
  lower_parts l a (Formed.union p q) = in_cons (omega arith) (in_cons (omega arith) (λ i. in_none))
  lower_parts l a (Formed.star p) = in_cons (omega arith) (λ i. in_none)
  lower_parts l a (Formed.plus p) = in_cons (omega arith) (λ i. in_none)
  lower_parts l a (Formed.opt p) = in_cons (omega arith) (λ i. in_none)
  lower_parts {e} l a (Formed.name {d} p) = in_cons (f.defined d (get_or D d 0) (at_is D d 0 (f.named e d a))) (λ i. in_none)

  formed_parts : (e : ℕ) → e < length T → (i : ℕ) → In i (steps_of true D (at T e)) → i < length T
  unfolding steps_of
  formed_parts zero l i = rw (at_get_or f.zeroth Types.empty) in_none
  formed_parts (suc zero) l i = rw (at_get_or f.first Types.empty) in_none
  formed_parts (suc (suc e)) l i =
      let a = at_is T (suc (suc e)) Types.empty l in
      lower_parts l a (f.lower (suc (suc e)) (at T (suc (suc e))) (omega arith) a) i

  pub formed_within : (e : ℕ) → e < length T → Within (length T) D (at T e)
  formed_within e l =
      record {
        parts = formed_parts e l;
        named = λ d p. f.named e d (subst (At T e) (named_is (at T e) d p) (at_is T e Types.empty l));
      }

-- what stands in an entry is the same with other definitions, if those that it names are the same
steps_alike : (D E : Defs) (x : Entry) → ((d : ℕ) → name_of x ≡ some d → get_or D d 0 ≡ get_or E d 0) → steps_of true D x ≡ steps_of true E x
unfolding steps_of name_of
steps_alike D E Types.empty h = refl
steps_alike D E Types.string h = refl
steps_alike D E (Types.element l c) h = refl
steps_alike D E (Types.pair a b) h = refl
steps_alike D E (Types.union a b) h = refl
steps_alike D E (Types.star a) h = refl
steps_alike D E (Types.plus a) h = refl
steps_alike D E (Types.opt a) h = refl
steps_alike D E (Types.name d) h = ap (◌∷ []) (h d refl)

-- the definitions in use are the first of those lent
module _ {T : Table} {defs : List ℕ} {D : Defs} (g : Given T defs D) where
  taken_at : (d : ℕ) → d < length D → get_or D d 0 ≡ get_or defs d 0
  taken_at d l = ap (λ (E : Defs). get_or E d 0) g.taken ∙ get_or-take (length D) defs d 0 l

  pub given_alike : (e : ℕ) → e < length T → steps_of true defs (at T e) ≡ steps_of true D (at T e)
  given_alike e l = steps_alike defs D (at T e) (λ d p. sym (taken_at d ((formed_within g.formed e l).named d p)))

  pub given_within : (e : ℕ) → e < length T → Within (length T) defs (at T e)
  given_within e l =
      record {
        parts = λ i s. (formed_within g.formed e l).parts i (rw (given_alike e l) at s);
        named = λ d p. omega (arith, (formed_within g.formed e l).named d p, g.listed);
      }

-- WHAT A CALLER HAS: definitions that are the first so many of those lent; or all of them
module _ {T : Table} {D : Defs} (f : Formed D T) where
  pub given_taken : {defs : List ℕ} (used : ℕ) → used ≤ length defs → D ≡ take used defs → Given T defs D
  given_taken {defs} used l p =
      let long : length D ≡ used = ap length p ∙ length-take-le used defs l in
      record { formed = f; listed = omega arith; taken = p ∙ ap (λ (n : ℕ). take n defs) (sym long) }

  pub given_exact : Given T D D
  given_exact = record { formed = f; listed = omega arith; taken = sym (take-length D) }
