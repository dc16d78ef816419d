-- More room in the type table changes no typing that is accepted.
-- Assumes nothing.
use mathlib.Core.Path.{◌≡◌, refl}
use mathlib.Core.Bool.{Bool, true, false}
use mathlib.Core.List.{List, [], ◌∷◌}
use Prim.Native.Nat.{ℕ, ◌≤◌}
use native.Mathlib.Omega.{arith}
use borrow.Author.Tests.{ltb-true, lt-ltb}
use lib.Dec.{ltb, eqb}
use lib.ListN.{length}
use Rattle.meaning.specs.Base.{Out, ok, refused}
use Rattle.meaning.specs.Types as Types
use Rattle.meaning.specs.Types.{Entry, Table, Defs}
use Rattle.meaning.specs.Reach.{atoms_below}
use Rattle.meaning.specs.Shapes.{Shape, empty, string, element, pair, union, star, plus, opt, name, shape, Class, one, maybe, more, any, quant}
use Rattle.meaning.specs.Records.{tree, forest}
use Rattle.meaning.specs.Queries as Queries
use Rattle.meaning.specs.Queries.{Query}
use Rattle.meaning.specs.Rules.{Does, after, from_out, append_if, append, prime, content, sift, filter, child_rule, times, unions, star_of, dos_rule}
use Rattle.meaning.specs.Typing.{Scope, unbound, tree_type, State, Walk, leaving, type_cond, for_rule, type_of}
use Rattle.meaning.proofs.Lists.{never}
use Rattle.meaning.proofs.Ends.{Keeps, kept, free, keeps_refl, keeps_after}

module _ (room wide : ℕ) (less : room ≤ wide) where
  module _ (n : ℕ) where
    pub append_keeps : (x : Entry) (t : Table) → Keeps (append room n x t) (append wide n x t)
    append_keeps x t = go (ltb (length t) room) (ltb (length t) wide) (λ h. lt-ltb (length t) wide (omega (arith, ltb-true (length t) room h)))
      where
        go : (b c : Bool) → (b ≡ true → c ≡ true) → Keeps (append_if room n b x t) (append_if wide n c x t)
        go true true h = kept
        go true false h = never (h refl)
        go false c h = free

    pub prime_keeps : (s : Shape) (t : Table) → Keeps (prime room n s t) (prime wide n s t)
    unfolding prime
    prime_keeps (empty e) t = kept
    prime_keeps (string e) t = kept
    prime_keeps (element e l c) t = kept
    prime_keeps (pair r s) t = keeps_after (prime_keeps r t) λ u x. keeps_after (prime_keeps s u) λ w y. append_keeps (Types.union x y) w
    prime_keeps (union r s) t = keeps_after (prime_keeps r t) λ u x. keeps_after (prime_keeps s u) λ w y. append_keeps (Types.union x y) w
    prime_keeps (star s) t = prime_keeps s t
    prime_keeps (plus s) t = prime_keeps s t
    prime_keeps (opt s) t = prime_keeps s t
    prime_keeps (name s) t = prime_keeps s t

    pub content_keeps : (s : Shape) (t : Table) → Keeps (content room n s t) (content wide n s t)
    unfolding content
    content_keeps (empty e) t = kept
    content_keeps (string e) t = kept
    content_keeps (element e l c) t = kept
    content_keeps (pair r s) t = kept
    content_keeps (union r s) t = keeps_after (content_keeps r t) λ u x. keeps_after (content_keeps s u) λ w y. append_keeps (Types.union x y) w
    content_keeps (star s) t = kept
    content_keeps (plus s) t = kept
    content_keeps (opt s) t = kept
    content_keeps (name s) t = kept

    pub sift_keeps : (w : ℕ) (s : Shape) (t : Table) → Keeps (sift room n w s t) (sift wide n w s t)
    unfolding sift
    sift_keeps w (empty e) t = kept
    sift_keeps w (string e) t = kept
    sift_keeps w (element e l c) t = kept
    sift_keeps w (pair r s) t = keeps_after (sift_keeps w r t) λ u x. keeps_after (sift_keeps w s u) λ v y. append_keeps (Types.pair x y) v
    sift_keeps w (union r s) t = keeps_after (sift_keeps w r t) λ u x. keeps_after (sift_keeps w s u) λ v y. append_keeps (Types.union x y) v
    sift_keeps w (star s) t = keeps_after (sift_keeps w s t) λ u x. append_keeps (Types.star x) u
    sift_keeps w (plus s) t = keeps_after (sift_keeps w s t) λ u x. append_keeps (Types.plus x) u
    sift_keeps w (opt s) t = keeps_after (sift_keeps w s t) λ u x. append_keeps (Types.opt x) u
    sift_keeps w (name s) t = sift_keeps w s t

    pub filter_keeps : (D : Defs) (w e : ℕ) (t : Table) → Keeps (filter room n D w e t) (filter wide n D w e t)
    unfolding filter
    filter_keeps D w e t = go (eqb w 0)
      where
        go : (b : Bool) → Keeps {A = Table × ℕ} (elim b [ true ↦ ok (t, e) | false ↦ sift room n w (shape D t e) t ]) (elim b [ true ↦ ok (t, e) | false ↦ sift wide n w (shape D t e) t ])
        go true = kept
        go false = sift_keeps w (shape D t e) t

    pub child_rule_keeps : (D : Defs) (w e : ℕ) (t : Table) → Keeps (child_rule room n D w e t) (child_rule wide n D w e t)
    unfolding child_rule
    child_rule_keeps D w e t = keeps_after (content_keeps (shape D t e) t) λ u c. filter_keeps D w c u

    pub times_keeps : (u : ℕ) (q : Class) (t : Table) → Keeps (times room n u q t) (times wide n u q t)
    unfolding times
    times_keeps u one t = kept
    times_keeps u maybe t = append_keeps (Types.opt u) t
    times_keeps u more t = append_keeps (Types.plus u) t
    times_keeps u any t = append_keeps (Types.star u) t

    pub unions_keeps : (x : ℕ) (xs : List ℕ) (t : Table) → Keeps (unions room n x xs t) (unions wide n x xs t)
    unfolding unions
    unions_keeps x [] t = kept
    unions_keeps x (y ∷ ys) t = keeps_after (append_keeps (Types.union x y) t) λ u z. unions_keeps z ys u

    pub star_of_keeps : (xs : List ℕ) (t : Table) → Keeps (star_of room n xs t) (star_of wide n xs t)
    unfolding star_of
    star_of_keeps [] t = kept
    star_of_keeps (x ∷ xs) t = keeps_after (unions_keeps x xs t) λ u z. append_keeps (Types.star z) u

    pub dos_rule_keeps : (D : Defs) (w e : ℕ) (t : Table) → Keeps (dos_rule room n D w e t) (dos_rule wide n D w e t)
    unfolding dos_rule
    dos_rule_keeps D w e t = star_of_keeps (atoms_below w D t e) t

  leaving_keeps : {A : Type 0} {m o : Out (Table × A)} (s : State) → Keeps m o → Keeps (leaving s m) (leaving s o)
  leaving_keeps s kept = kept
  leaving_keeps s free = free

  from_keeps : {S A B : Type 0} (o : Out A) (s : S) (f g : A → Does S B) → ((a : A) → Keeps (f a s) (g a s)) → Keeps (after (from_out o s) f) (after (from_out o s) g)
  from_keeps (ok a) s f g k = k a
  from_keeps (refused n p) s f g k = free

  -- FOR, if its body keeps its typing
  pub for_rule_keeps : (D : Defs) (n e : ℕ) (body wider : ℕ → Walk ℕ) (s : State) → ((u : State) (x : ℕ) → Keeps (body x u) (wider x u)) → Keeps (for_rule room D n e body s) (for_rule wide D n e wider s)
  unfolding for_rule
  for_rule_keeps D n e body wider s k =
      let shaped = shape D s.types e in
      keeps_after (leaving_keeps s (prime_keeps n shaped s.types)) λ u x. keeps_after (k u x) λ w y. leaving_keeps w (times_keeps n y (quant shaped) w.types)

  pub type_keeps : (D : Defs) (q : Query) (g : Scope) (s : State) → Keeps (type_of room D q g s) (type_of wide D q g s)
  unfolding type_of
  type_keeps D (Queries.nothing n) g s = kept
  type_keeps D (Queries.text n t) g s = kept
  type_keeps D (Queries.element n l q) g s = keeps_after (type_keeps D q g s) λ u x. leaving_keeps u (append_keeps n (Types.element l x) u.types)
  type_keeps D (Queries.pair n p q) g s = keeps_after (type_keeps D p g s) λ u x. keeps_after (type_keeps D q g u) λ w y. leaving_keeps w (append_keeps n (Types.pair x y) w.types)
  type_keeps D (Queries.variable n v) g s = keeps_refl _
  type_keeps D (Queries.child n v w) g s = from_keeps (tree_type n g v) s _ _ λ e. leaving_keeps s (child_rule_keeps n D w e s.types)
  type_keeps D (Queries.dos n v w) g s = from_keeps (tree_type n g v) s _ _ λ e. leaving_keeps s (dos_rule_keeps n D w e s.types)
  type_keeps D (Queries.for n v p q) g s =
      keeps_after (type_keeps D p g s) λ u e. from_keeps (unbound n g v) u _ _ λ _.
      for_rule_keeps D n e (λ x. type_of room D q ((v, tree x) ∷ g)) (λ x. type_of wide D q ((v, tree x) ∷ g)) u (λ w x. type_keeps D q ((v, tree x) ∷ g) w)
  type_keeps D (Queries.let_in n v p q) g s = keeps_after (type_keeps D p g s) λ u e. from_keeps (unbound n g v) u _ _ λ _. type_keeps D q ((v, forest e) ∷ g) u
  type_keeps D (Queries.when n c q) g s =
      from_keeps (type_cond c g) s _ _ λ _. keeps_after (type_keeps D q g s) λ u x. leaving_keeps u (append_keeps n (Types.opt x) u.types)
