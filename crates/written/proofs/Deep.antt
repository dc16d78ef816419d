-- The nodes that open too deep: those of a part are its own, and those of its parts. More than 100 open count as 100.
-- Assumes nothing.
use mathlib.Core.Path.{◌≡◌, refl, sym, ap, ap₂, ◌∙◌}
use mathlib.Core.Bool.{Bool, true, false}
use mathlib.Core.List.{List, [], ◌∷◌, ◌++◌, append-nil}
use Prim.Native.Nat.{ℕ, suc, ◌≤◌}
use native.Mathlib.Omega.{arith}
use lib.Dec.{ltb}
use borrow.Author.Tests.{ltb-false, le-ltb}
use Rattle.meaning.specs.Base.{concat_map}
use Rattle.meaning.specs.Queries as Queries
use Rattle.meaning.specs.Queries.{Cond, Query}
use Rattle.meaning.specs.Written.{over, deep_cond, deep_query}
use Rattle.queries.proofs.Named.{top, top_cond}
use Rattle.parts.specs.Items as Items
use Rattle.parts.specs.Items.{Item, piece, query, cond}
use Rattle.written.specs.Says.{owns, next, inside}
use Rattle.written.proofs.Flat.{Whole}

-- THOSE OF A PART; its node's number, and how many are open around it
abbrev pub deeps : Item → List ℕ
deeps (piece k v) = []
deeps (query m d q) = deep_query m d q
deeps (cond d p) = deep_cond d p

abbrev pub node : Item → ℕ
node (piece k v) = 0
node (query m d q) = top q
node (cond d p) = top_cond p

abbrev pub depth : Item → ℕ
depth (piece k v) = 0
depth (query m d q) = d
depth (cond d p) = d

-- from 100 on one more makes no difference
module _ {d : ℕ} (h : 100 ≤ d) where
  far_over : (n : ℕ) → over (suc d) n ≡ over d n
  far_over n =
      ap (λ (b : Bool). elim b as (λ _. List ℕ) [ true ↦ [] | false ↦ n ∷ [] ]) (le-ltb (suc d) 100 (omega arith) ∙ sym (le-ltb d 100 h))

far_cond : (d : ℕ) → 100 ≤ d → (p : Cond) → deep_cond (suc d) p ≡ deep_cond d p
unfolding deep_cond
far_cond d h (Queries.always n) = refl
far_cond d h (Queries.never n) = refl
far_cond d h (Queries.equal n v w) = refl
far_cond d h (Queries.empty n v) = refl
far_cond d h (Queries.or n p q) = ap₂ ◌++◌ (far_over h n) (ap₂ ◌++◌ (far_cond (suc d) (omega arith) p) (far_cond (suc d) (omega arith) q))
far_cond d h (Queries.not n p) = ap₂ ◌++◌ (far_over h n) (far_cond (suc d) (omega arith) p)

far_query : (m : Bool) (d : ℕ) → 100 ≤ d → (q : Query) → deep_query m (suc d) q ≡ deep_query m d q
unfolding deep_query
far_query m d h (Queries.nothing n) = far_over h n
far_query m d h (Queries.text n t) = refl
far_query m d h (Queries.element n l q) = ap₂ ◌++◌ (far_over h n) (far_query true (suc d) (omega arith) q)
far_query true d h (Queries.pair n p q) = ap₂ ◌++◌ (far_query false d h p) (far_query true d h q)
far_query false d h (Queries.pair n p q) = ap₂ ◌++◌ (far_over h n) (ap₂ ◌++◌ (far_query false (suc d) (omega arith) p) (far_query true (suc d) (omega arith) q))
far_query m d h (Queries.variable n v) = refl
far_query m d h (Queries.child n v w) = refl
far_query m d h (Queries.dos n v w) = refl
far_query m d h (Queries.for n v p q) = ap₂ ◌++◌ (far_over h n) (ap₂ ◌++◌ (far_query false (suc d) (omega arith) p) (far_query false (suc d) (omega arith) q))
far_query m d h (Queries.let_in n v p q) = ap₂ ◌++◌ (far_over h n) (ap₂ ◌++◌ (far_query false (suc d) (omega arith) p) (far_query false (suc d) (omega arith) q))
far_query m d h (Queries.when n p q) = ap₂ ◌++◌ (far_over h n) (ap₂ ◌++◌ (far_cond (suc d) (omega arith) p) (far_query false (suc d) (omega arith) q))

-- so many are enough
module _ (f : ℕ → List ℕ) (far : (d : ℕ) → 100 ≤ d → f (suc d) ≡ f d) where
  next_of : (d : ℕ) (b : Bool) → ltb d 100 ≡ b → f (suc d) ≡ f (elim b as (λ _. ℕ) [ true ↦ suc d | false ↦ d ])
  next_of d true e = refl
  next_of d false e = far d (ltb-false d 100 e)

  next_is : (d : ℕ) → f (suc d) ≡ f (next d)
  next_is d = next_of d (ltb d 100) refl

next_cond : (d : ℕ) (p : Cond) → deep_cond (suc d) p ≡ deep_cond (next d) p
next_cond d p = next_is (λ e. deep_cond e p) (λ e h. far_cond e h p) d

next_query : (m : Bool) (d : ℕ) (q : Query) → deep_query m (suc d) q ≡ deep_query m (next d) q
next_query m d q = next_is (λ e. deep_query m e q) (λ e h. far_query m e h q) d

-- own ones, and those of one part or two
one_part : (xs : List ℕ) {a b : List ℕ} → a ≡ b → xs ++ a ≡ xs ++ (b ++ [])
one_part xs {a} {b} p = ap (λ (x : List ℕ). xs ++ x) (p ∙ sym (append-nil b))

two_parts : (xs : List ℕ) {a b c d : List ℕ} → a ≡ c → b ≡ d → xs ++ (a ++ b) ≡ xs ++ (c ++ (d ++ []))
two_parts xs {d = d} p q = ap (λ (x : List ℕ). xs ++ x) (ap₂ ◌++◌ p (q ∙ sym (append-nil d)))

deep_cond_lem : (d : ℕ) (p : Cond) → deep_cond d p ≡ owns (Items.cond_opens p) d (top_cond p) ++ concat_map deeps (Items.of_cond (inside (Items.cond_opens p) d) p)
unfolding deep_cond Items.of_cond Items.cond_opens concat_map
deep_cond_lem d (Queries.always n) = refl
deep_cond_lem d (Queries.never n) = refl
deep_cond_lem d (Queries.equal n v w) = refl
deep_cond_lem d (Queries.empty n v) = refl
deep_cond_lem d (Queries.or n p q) = two_parts (over d n) (next_cond d p) (next_cond d q)
deep_cond_lem d (Queries.not n p) = one_part (over d n) (next_cond d p)

deep_query_lem : (m : Bool) (d : ℕ) (q : Query) → deep_query m d q ≡ owns (Items.query_opens m q) d (top q) ++ concat_map deeps (Items.of_query m (inside (Items.query_opens m q) d) q)
unfolding deep_query Items.of_query Items.query_opens concat_map
deep_query_lem m d (Queries.nothing n) = sym (append-nil (over d n))
deep_query_lem m d (Queries.text n t) = refl
deep_query_lem m d (Queries.element n l q) = one_part (over d n) (next_query true d q)
deep_query_lem true d (Queries.pair n p q) = two_parts [] {a = deep_query false d p} {b = deep_query true d q} refl refl
deep_query_lem false d (Queries.pair n p q) = two_parts (over d n) (next_query false d p) (next_query true d q)
deep_query_lem m d (Queries.variable n v) = refl
deep_query_lem m d (Queries.child n v w) = refl
deep_query_lem m d (Queries.dos n v w) = refl
deep_query_lem m d (Queries.for n v p q) = two_parts (over d n) (next_query false d p) (next_query false d q)
deep_query_lem m d (Queries.let_in n v p q) = two_parts (over d n) (next_query false d p) (next_query false d q)
deep_query_lem m d (Queries.when n p q) = two_parts (over d n) (next_cond d p) (next_query false d q)

pub deep_parts : (x : Item) → Whole x → deeps x ≡ owns (Items.opens x) (depth x) (node x) ++ concat_map deeps (Items.parts_of (inside (Items.opens x) (depth x)) x)
deep_parts (piece k v) h = absurd h
deep_parts (query m d q) h = deep_query_lem m d q
deep_parts (cond d p) h = deep_cond_lem d p
