-- The pieces of a part are those of its parts; what a part weighs, and that its parts weigh less; and that nodes are inside a table.
-- Assumes nothing.
use mathlib.Core.Path.{◌≡◌, refl, sym, ap}
use mathlib.Core.Bool.{Bool, true, false}
use mathlib.Core.List.{List, [], ◌∷◌, ◌++◌, append_assoc, append-nil}
use Prim.Native.Nat.{ℕ, ◌+◌, ◌*◌, ◌≤◌, ◌<◌}
use native.Mathlib.Omega.{arith}
use lib.ListN.{length}
use Rattle.meaning.specs.Base.{concat_map}
use Rattle.meaning.specs.Queries as Queries
use Rattle.meaning.specs.Queries.{Cond, Query}
use Rattle.meaning.specs.Tokens
use Rattle.meaning.specs.Written as Written
use Rattle.meaning.specs.Written.{Piece, plain, decimal}
use Rattle.meaning.proofs.Nodes.{InCond, InQuery}
use Rattle.parts.specs.Items as Items
use Rattle.parts.specs.Items.{Item, piece, query, cond}

-- THE PIECES of a part
abbrev pub flat : Item → List Piece
flat (piece k v) = (k, v) ∷ []
flat (query m d q) = Written.of_query m q
flat (cond d p) = Written.of_cond p

flat_cond : (e : ℕ) (p : Cond) → concat_map flat (Items.of_cond e p) ≡ Written.of_cond p
unfolding Items.of_cond Written.of_cond concat_map
flat_cond e (Queries.always n) = refl
flat_cond e (Queries.never n) = refl
flat_cond e (Queries.equal n v w) = refl
flat_cond e (Queries.empty n v) = refl
flat_cond e (Queries.or n p q) = refl
flat_cond e (Queries.not n p) = ap (λ (x : List Piece). plain Tokens.token·not ∷ x) (append-nil (Written.of_cond p))

flat_query : (m : Bool) (e : ℕ) (q : Query) → concat_map flat (Items.of_query m e q) ≡ Written.of_query m q
unfolding Items.of_query Written.of_query concat_map
flat_query m e (Queries.nothing n) = refl
flat_query m e (Queries.text n t) = refl
flat_query m e (Queries.element n l q) = refl
flat_query true e (Queries.pair n p q) = ap (λ (x : List Piece). Written.of_query false p ++ (plain Tokens.token·comma ∷ x)) (append-nil (Written.of_query true q))
flat_query false e (Queries.pair n p q) =
    ap (λ (x : List Piece). plain Tokens.token·opens ∷ x) (sym (append_assoc (Written.of_query false p) (plain Tokens.token·comma ∷ Written.of_query true q) (plain Tokens.token·closes ∷ [])))
flat_query m e (Queries.variable n v) = refl
flat_query m e (Queries.child n v w) = refl
flat_query m e (Queries.dos n v w) = refl
flat_query m e (Queries.for n v p q) =
    ap (λ (x : List Piece). plain Tokens.token·for ∷ plain Tokens.token·dollar ∷ decimal v ∷ plain Tokens.token·in ∷ (Written.of_query false p ++ (plain Tokens.token·return ∷ x))) (append-nil (Written.of_query false q))
flat_query m e (Queries.let_in n v p q) =
    ap (λ (x : List Piece). plain Tokens.token·let ∷ plain Tokens.token·dollar ∷ decimal v ∷ plain Tokens.token·gets ∷ (Written.of_query false p ++ (plain Tokens.token·return ∷ x))) (append-nil (Written.of_query false q))
flat_query m e (Queries.when n p q) =
    ap (λ (x : List Piece). plain Tokens.token·when ∷ (Written.of_cond p ++ (plain Tokens.token·return ∷ x))) (append-nil (Written.of_query false q))

-- a part that is no piece
abbrev pub Whole : Item → Type 0
Whole (piece k v) = ⊥
Whole (query m d q) = Unit {0}
Whole (cond d p) = Unit {0}

pub flat_parts : (e : ℕ) (x : Item) → Whole x → concat_map flat (Items.parts_of e x) ≡ flat x
flat_parts e (piece k v) h = absurd h
flat_parts e (query m d q) h = flat_query m e q
flat_parts e (cond d p) h = flat_cond e p

-- HOW MANY NODES there are
unfoldable pub cond_nodes : Cond → ℕ
cond_nodes (Queries.always n) = 1
cond_nodes (Queries.never n) = 1
cond_nodes (Queries.equal n v w) = 1
cond_nodes (Queries.empty n v) = 1
cond_nodes (Queries.or n p q) = 1 + (cond_nodes p + cond_nodes q)
cond_nodes (Queries.not n p) = 1 + cond_nodes p

unfoldable pub query_nodes : Query → ℕ
query_nodes (Queries.nothing n) = 1
query_nodes (Queries.text n t) = 1
query_nodes (Queries.element n l q) = 1 + query_nodes q
query_nodes (Queries.pair n p q) = 1 + (query_nodes p + query_nodes q)
query_nodes (Queries.variable n v) = 1
query_nodes (Queries.child n v w) = 1
query_nodes (Queries.dos n v w) = 1
query_nodes (Queries.for n v p q) = 1 + (query_nodes p + query_nodes q)
query_nodes (Queries.let_in n v p q) = 1 + (query_nodes p + query_nodes q)
query_nodes (Queries.when n p q) = 1 + (cond_nodes p + query_nodes q)

-- WHAT A PART WEIGHS: a piece 1, a node 6
abbrev pub weigh : Item → ℕ
weigh (piece k v) = 1
weigh (query m d q) = 6 * query_nodes q
weigh (cond d p) = 6 * cond_nodes p

unfoldable pub weight : List Item → ℕ
weight [] = 0
weight (x ∷ xs) = weigh x + weight xs

pub weight_append : (xs ys : List Item) → weight (xs ++ ys) ≡ weight xs + weight ys
unfolding weight
weight_append [] ys = omega arith
weight_append (x ∷ xs) ys = omega (arith, weight_append xs ys)

lighter_cond : (e : ℕ) (p : Cond) → weight (Items.of_cond e p) < 6 * cond_nodes p
unfolding Items.of_cond weight cond_nodes
lighter_cond e (Queries.always n) = omega arith
lighter_cond e (Queries.never n) = omega arith
lighter_cond e (Queries.equal n v w) = omega arith
lighter_cond e (Queries.empty n v) = omega arith
lighter_cond e (Queries.or n p q) = omega arith
lighter_cond e (Queries.not n p) = omega arith

lighter_query : (m : Bool) (e : ℕ) (q : Query) → weight (Items.of_query m e q) < 6 * query_nodes q
unfolding Items.of_query weight query_nodes
lighter_query m e (Queries.nothing n) = omega arith
lighter_query m e (Queries.text n t) = omega arith
lighter_query m e (Queries.element n l q) = omega arith
lighter_query true e (Queries.pair n p q) = omega arith
lighter_query false e (Queries.pair n p q) = omega arith
lighter_query m e (Queries.variable n v) = omega arith
lighter_query m e (Queries.child n v w) = omega arith
lighter_query m e (Queries.dos n v w) = omega arith
lighter_query m e (Queries.for n v p q) = omega arith
lighter_query m e (Queries.let_in n v p q) = omega arith
lighter_query m e (Queries.when n p q) = omega arith

pub lighter : (e : ℕ) (x : Item) → Whole x → weight (Items.parts_of e x) < weigh x
lighter e (piece k v) h = absurd h
lighter e (query m d q) h = lighter_query m e q
lighter e (cond d p) h = lighter_cond e p

-- each weighs something
pub some_cond : (p : Cond) → 1 ≤ cond_nodes p
unfolding cond_nodes
some_cond (Queries.always n) = omega arith
some_cond (Queries.never n) = omega arith
some_cond (Queries.equal n v w) = omega arith
some_cond (Queries.empty n v) = omega arith
some_cond (Queries.or n p q) = omega arith
some_cond (Queries.not n p) = omega arith

pub some_query : (q : Query) → 1 ≤ query_nodes q
unfolding query_nodes
some_query (Queries.nothing n) = omega arith
some_query (Queries.text n t) = omega arith
some_query (Queries.element n l q) = omega arith
some_query (Queries.pair n p q) = omega arith
some_query (Queries.variable n v) = omega arith
some_query (Queries.child n v w) = omega arith
some_query (Queries.dos n v w) = omega arith
some_query (Queries.for n v p q) = omega arith
some_query (Queries.let_in n v p q) = omega arith
some_query (Queries.when n p q) = omega arith

pub weighs : (x : Item) → 1 ≤ weigh x
weighs (piece k v) = omega arith
weighs (query m d q) = omega (arith, some_query q)
weighs (cond d p) = omega (arith, some_cond p)

pub weight_most : (xs : List Item) → length xs ≤ weight xs
unfolding weight
weight_most [] = omega arith
weight_most (x ∷ xs) = omega (arith, weighs x, weight_most xs)

-- ITS NODES are inside a table of so many
abbrev pub Within : ℕ → Item → Type 0
Within n (piece k v) = Unit {0}
Within n (query m d q) = InQuery (λ i. i < n) q
Within n (cond d p) = InCond (λ i. i < n) p

unfoldable pub AllWithin : ℕ → List Item → Type 0
AllWithin n [] = Unit {0}
AllWithin n (x ∷ xs) = Within n x × AllWithin n xs

pub within_append : (n : ℕ) (xs ys : List Item) → AllWithin n xs → AllWithin n ys → AllWithin n (xs ++ ys)
unfolding AllWithin
within_append n [] ys h k = k
within_append n (x ∷ xs) ys h k = (h.0, within_append n xs ys h.1 k)

within_cond : (n e : ℕ) (p : Cond) → InCond (λ i. i < n) p → AllWithin n (Items.of_cond e p)
unfolding Items.of_cond AllWithin InCond
within_cond n e (Queries.always i) h = (tt, tt)
within_cond n e (Queries.never i) h = (tt, tt)
within_cond n e (Queries.equal i v w) h = (tt, (tt, (tt, (tt, (tt, tt)))))
within_cond n e (Queries.empty i v) h = (tt, (tt, (tt, tt)))
within_cond n e (Queries.or i p q) h = (tt, (h.1, (tt, (h.2, (tt, tt)))))
within_cond n e (Queries.not i p) h = (tt, (h.1, tt))

within_query : (n : ℕ) (m : Bool) (e : ℕ) (q : Query) → InQuery (λ i. i < n) q → AllWithin n (Items.of_query m e q)
unfolding Items.of_query AllWithin InQuery
within_query n m e (Queries.nothing i) h = (tt, (tt, tt))
within_query n m e (Queries.text i t) h = (tt, (tt, tt))
within_query n m e (Queries.element i l q) h = (tt, (tt, (h.1, (tt, tt))))
within_query n true e (Queries.pair i p q) h = (h.1, (tt, (h.2, tt)))
within_query n false e (Queries.pair i p q) h = (tt, (h.1, (tt, (h.2, (tt, tt)))))
within_query n m e (Queries.variable i v) h = (tt, (tt, tt))
within_query n m e (Queries.child i v w) h = (tt, (tt, (tt, (tt, tt))))
within_query n m e (Queries.dos i v w) h = (tt, (tt, (tt, (tt, tt))))
within_query n m e (Queries.for i v p q) h = (tt, (tt, (tt, (tt, (h.1, (tt, (h.2, tt)))))))
within_query n m e (Queries.let_in i v p q) h = (tt, (tt, (tt, (tt, (h.1, (tt, (h.2, tt)))))))
within_query n m e (Queries.when i p q) h = (tt, (h.1, (tt, (h.2, tt))))

pub within_parts : (n e : ℕ) (x : Item) → Within n x → AllWithin n (Items.parts_of e x)
unfolding AllWithin
within_parts n e (piece k v) h = tt
within_parts n e (query m d q) h = within_query n m e q h
within_parts n e (cond d p) h = within_cond n e p h
