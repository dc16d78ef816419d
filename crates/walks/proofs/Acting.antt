-- What a rule does at an entry, as a walk does it: at once, at another entry, or in parts, with a frame that waits for them. Every such part has less
-- to walk, and its way down is shorter.
-- Assumes nothing.
use mathlib.Core.Path.{◌≡◌, ap, sym, subst}
use mathlib.Core.Bool.{Bool, true, false, cond}
use Prim.Native.Nat.{ℕ, ◌+◌, ◌≤◌, ◌<◌}
use native.Mathlib.Omega.{arith}
use lib.ListN.{length, get_or}
use Rattle.meaning.specs.Base.{At, In, first, later, Out, ok, find}
use Rattle.meaning.specs.Forests.{text, label, passes}
use Rattle.meaning.specs.Types as Types
use Rattle.meaning.specs.Types.{Entry, Table, Defs, entry_of, at}
use Rattle.meaning.specs.Reach.{steps_of}
use Rattle.meaning.specs.Formed.{Formed}
use Rattle.meaning.specs.Shapes.{shape}
use Rattle.meaning.specs.Rules.{after, append, prime, content, sift}
use Rattle.meaning.proofs.Lists.{at_low, at_get_or, at_is}
use Rattle.meaning.proofs.Guard.{steps_low}
use Rattle.meaning.proofs.Shapes.{shape_empty, shape_string, shape_element, shape_pair, shape_union, shape_star, shape_plus, shape_opt, shape_name}
use Rattle.grow.proofs.Entries.{element_low, name_low}
use Rattle.acts.specs.Acts.{does, prime_of, content_of, sift_of, act_of}
use Rattle.acts.specs.declared.Mode.{Mode}
use Rattle.acts.specs.declared.Act.{Act}
use Rattle.walks.specs.Frames.{second, Paired}
use Rattle.walks.specs.declared.Frame.{Frame}
use Rattle.walks.proofs.Tall.{size, tall, tall_falls}

-- entry x is a part of entry e, not behind an element
pub record Inner (D : Defs) (T : Table) (e x : ℕ) : Type 0 where
  pub low : x < length T
  pub tall : tall D T x < tall D T e
  pub less : size (shape D T x) < size (shape D T e)

-- of a rule, in a table of so much room, for a node
module _ (mode : Mode) (room node : ℕ) (D : Defs) (T : Table) where
  -- what a frame leaves to do, once its part has answered or refused
  unfoldable pub run : Frame → Out (Table × ℕ) → Out (Table × ℕ)
  run (Frame.Half k e) o = after o (λ l. λ U. after (does mode room node (shape D T (second (at T e))) U) (λ r. append room node (entry_of k l r)))
  run (Frame.Alone k) o = after o (λ r. append room node (entry_of k r 0))
  run (Frame.Joined k l) o = after o (λ r. append room node (entry_of k l r))

  pub data Says (e : ℕ) : Act → Type 0 where
    answers : {r : ℕ} → r < length T → ((U : Table) → does mode room node (shape D T e) U ≡ ok (U, r)) → Says e (Act.Answer r)
    goes : {p : ℕ} → Inner D T e p → ((U : Table) → does mode room node (shape D T e) U ≡ does mode room node (shape D T p) U) → Says e (Act.Into p)
    halves : {k a : ℕ} → 4 ≤ k → k < 6 → Paired (at T e) → Inner D T e a → size (shape D T a) + size (shape D T (second (at T e))) < size (shape D T e)
        → ((U : Table) → does mode room node (shape D T e) U ≡ run (Frame.Half k e) (does mode room node (shape D T a) U)) → Says e (Act.First k a)
    starts : {k a : ℕ} → 6 ≤ k → k < 9 → Inner D T e a
        → ((U : Table) → does mode room node (shape D T e) U ≡ run (Frame.Alone k) (does mode room node (shape D T a) U)) → Says e (Act.First k a)

-- THE PARTS
module _ {D : Defs} {T : Table} (F : Formed D T) {e : ℕ} where
  inner : {x : Entry} (i : ℕ) → At T e x → In i (steps_of false D x) → size (shape D T i) < size (shape D T e) → Inner D T e i
  inner {x} i h s l =
      let t : In i (steps_of false D (at T e)) = rw (at_get_or h Types.empty) s in
      record { low = steps_low D T F false e i (at_low h) t; tall = tall_falls D T F e i (at_low h) t; less = l }

  inner_star : {a : ℕ} → At T e (Types.star a) → Inner D T e a
  unfolding steps_of size
  inner_star {a} h = inner a h first (omega (arith, ap size (shape_star F h)))

  inner_plus : {a : ℕ} → At T e (Types.plus a) → Inner D T e a
  unfolding steps_of size
  inner_plus {a} h = inner a h first (omega (arith, ap size (shape_plus F h)))

  inner_opt : {a : ℕ} → At T e (Types.opt a) → Inner D T e a
  unfolding steps_of size
  inner_opt {a} h = inner a h first (omega (arith, ap size (shape_opt F h)))

  inner_name : {d : ℕ} → At T e (Types.name d) → Inner D T e (get_or D d 0)
  unfolding steps_of size
  inner_name {d} h = inner (get_or D d 0) h first (omega (arith, ap size (shape_name F h (name_low F h).1)))

  second_pair : {a b : ℕ} → At T e (Types.pair a b) → second (at T e) ≡ b
  unfolding second
  second_pair h = rw (at_get_or h Types.empty)

  second_union : {a b : ℕ} → At T e (Types.union a b) → second (at T e) ≡ b
  unfolding second
  second_union h = rw (at_get_or h Types.empty)

  second_of : (x : Entry) → At T e x → Paired x → Inner D T e (second x)
  unfolding steps_of size second Paired
  second_of Types.empty h p = absurd p
  second_of Types.string h p = absurd p
  second_of (Types.element l c) h p = absurd p
  second_of (Types.pair a b) h p = inner b h (later first) (omega (arith, ap size (shape_pair F h)))
  second_of (Types.union a b) h p = inner b h (later first) (omega (arith, ap size (shape_union F h)))
  second_of (Types.star a) h p = absurd p
  second_of (Types.plus a) h p = absurd p
  second_of (Types.opt a) h p = absurd p
  second_of (Types.name d) h p = absurd p

  -- the second part of an entry that has two
  pub second_inner : e < length T → Paired (at T e) → Inner D T e (second (at T e))
  second_inner l p = second_of (at T e) (at_is T e Types.empty l) p

module _ (mode : Mode) (room node : ℕ) {D : Defs} {T : Table} (F : Formed D T) {e : ℕ} where
  -- both sides, where the rule's clause does them and appends kind k
  pair_says : {a b : ℕ} (k : ℕ) → At T e (Types.pair a b) → 4 ≤ k → k < 6
      → ((U : Table) → does mode room node (shape D T e) U ≡ after (does mode room node (shape D T a) U) (λ x. λ W. after (does mode room node (shape D T b) W) (λ y. append room node (entry_of k x y))))
      → Says mode room node D T e (Act.First k a)
  unfolding steps_of size Paired run
  pair_says {a} {b} k h l i f =
      let q = second_pair F h in
      halves l i (subst Paired (sym (at_get_or h Types.empty)) tt)
      (inner F a h first (omega (arith, ap size (shape_pair F h))))
      (rw q (omega (arith, ap size (shape_pair F h))))
      (rw q f)

  union_says : {a b : ℕ} (k : ℕ) → At T e (Types.union a b) → 4 ≤ k → k < 6
      → ((U : Table) → does mode room node (shape D T e) U ≡ after (does mode room node (shape D T a) U) (λ x. λ W. after (does mode room node (shape D T b) W) (λ y. append room node (entry_of k x y))))
      → Says mode room node D T e (Act.First k a)
  unfolding steps_of size Paired run
  union_says {a} {b} k h l i f =
      let q = second_union F h in
      halves l i (subst Paired (sym (at_get_or h Types.empty)) tt)
      (inner F a h first (omega (arith, ap size (shape_union F h))))
      (rw q (omega (arith, ap size (shape_union F h))))
      (rw q f)

chosen_low : (b : Bool) (e n : ℕ) → e < n → cond b e 0 < n
chosen_low true e n l = l
chosen_low false e n l = omega arith

-- EVERY RULE, at every entry
module _ (room node : ℕ) {D : Defs} {T : Table} (F : Formed D T) (e : ℕ) where
  prime_says : (x : Entry) → At T e x → Says Mode.Prime room node D T e (prime_of D e x)
  unfolding prime_of prime entry_of find
  prime_says Types.empty h = answers (at_low h) (λ U. ap (λ s. prime room node s U) (shape_empty F h))
  prime_says Types.string h = answers (at_low h) (λ U. ap (λ s. prime room node s U) (shape_string F h))
  prime_says (Types.element l c) h = answers (at_low h) (λ U. ap (λ s. prime room node s U) (shape_element F h))
  prime_says (Types.pair a b) h = pair_says Mode.Prime room node F 5 h (omega arith) (omega arith) (λ U. ap (λ s. prime room node s U) (shape_pair F h))
  prime_says (Types.union a b) h = union_says Mode.Prime room node F 5 h (omega arith) (omega arith) (λ U. ap (λ s. prime room node s U) (shape_union F h))
  prime_says (Types.star a) h = goes (inner_star F h) (λ U. ap (λ s. prime room node s U) (shape_star F h))
  prime_says (Types.plus a) h = goes (inner_plus F h) (λ U. ap (λ s. prime room node s U) (shape_plus F h))
  prime_says (Types.opt a) h = goes (inner_opt F h) (λ U. ap (λ s. prime room node s U) (shape_opt F h))
  prime_says (Types.name d) h = goes (inner_name F h) (λ U. ap (λ s. prime room node s U) (shape_name F h (name_low F h).1))

  content_says : (x : Entry) → At T e x → Says Mode.Content room node D T e (content_of x)
  unfolding content_of content entry_of find
  content_says Types.empty h = answers {r = 0} (omega (arith, F.two)) (λ U. ap (λ s. content room node s U) (shape_empty F h))
  content_says Types.string h = answers {r = 0} (omega (arith, F.two)) (λ U. ap (λ s. content room node s U) (shape_string F h))
  content_says (Types.element l c) h = answers (element_low F h) (λ U. ap (λ s. content room node s U) (shape_element F h))
  content_says (Types.pair a b) h = answers {r = 0} (omega (arith, F.two)) (λ U. ap (λ s. content room node s U) (shape_pair F h))
  content_says (Types.union a b) h = union_says Mode.Content room node F 5 h (omega arith) (omega arith) (λ U. ap (λ s. content room node s U) (shape_union F h))
  content_says (Types.star a) h = answers {r = 0} (omega (arith, F.two)) (λ U. ap (λ s. content room node s U) (shape_star F h))
  content_says (Types.plus a) h = answers {r = 0} (omega (arith, F.two)) (λ U. ap (λ s. content room node s U) (shape_plus F h))
  content_says (Types.opt a) h = answers {r = 0} (omega (arith, F.two)) (λ U. ap (λ s. content room node s U) (shape_opt F h))
  content_says (Types.name d) h = answers {r = 0} (omega (arith, F.two)) (λ U. ap (λ s. content room node s U) (shape_name F h (name_low F h).1))

  sift_says : (w : ℕ) (x : Entry) → At T e x → Says (Mode.Sift w) room node D T e (sift_of w D e x)
  unfolding sift_of sift entry_of find run
  sift_says w Types.empty h = answers (at_low h) (λ U. ap (λ s. sift room node w s U) (shape_empty F h))
  sift_says w Types.string h = answers (chosen_low (passes w text) e (length T) (at_low h)) (λ U. ap (λ s. sift room node w s U) (shape_string F h))
  sift_says w (Types.element l c) h = answers (chosen_low (passes w (label l)) e (length T) (at_low h)) (λ U. ap (λ s. sift room node w s U) (shape_element F h))
  sift_says w (Types.pair a b) h = pair_says (Mode.Sift w) room node F 4 h (omega arith) (omega arith) (λ U. ap (λ s. sift room node w s U) (shape_pair F h))
  sift_says w (Types.union a b) h = union_says (Mode.Sift w) room node F 5 h (omega arith) (omega arith) (λ U. ap (λ s. sift room node w s U) (shape_union F h))
  sift_says w (Types.star a) h = starts {k = 6} (omega arith) (omega arith) (inner_star F h) (λ U. ap (λ s. sift room node w s U) (shape_star F h))
  sift_says w (Types.plus a) h = starts {k = 7} (omega arith) (omega arith) (inner_plus F h) (λ U. ap (λ s. sift room node w s U) (shape_plus F h))
  sift_says w (Types.opt a) h = starts {k = 8} (omega arith) (omega arith) (inner_opt F h) (λ U. ap (λ s. sift room node w s U) (shape_opt F h))
  sift_says w (Types.name d) h = goes (inner_name F h) (λ U. ap (λ s. sift room node w s U) (shape_name F h (name_low F h).1))

  pub acting : (mode : Mode) → e < length T → Says mode room node D T e (act_of mode D e (at T e))
  unfolding act_of
  acting Mode.Prime l = prime_says (at T e) (at_is T e Types.empty l)
  acting Mode.Content l = content_says (at T e) (at_is T e Types.empty l)
  acting (Mode.Sift w) l = sift_says w (at T e) (at_is T e Types.empty l)
