-- The parts that the text of a query is made of: pieces, and other queries and conditions.
-- Assumes nothing.
use Rattle.std.specs.Prelude.{ℕ, Bool, true, false, not, List, [], ◌∷◌}
use Rattle.meaning.specs.Queries as Queries
use Rattle.meaning.specs.Queries.{Cond, Query}
use Rattle.meaning.specs.Tokens
use Rattle.meaning.specs.Written.{of_test}

-- a piece, by its number and its value; a query, where there may be many items or one, and a condition, with how many are open around them
pub data Item : Type 0 where
  piece : ℕ → ℕ → Item
  query : Bool → ℕ → Query → Item
  cond : ℕ → Cond → Item

abbrev pub sign : ℕ → Item
sign k = piece k 0

abbrev pub number : ℕ → Item
number n = piece Tokens.token·number n

abbrev pub test : ℕ → Item
test w = piece (of_test w).0 (of_test w).1

abbrev pub one : ℕ → Query → Item
one e q = query false e q

abbrev pub many : ℕ → Query → Item
many e q = query true e q

-- THE PARTS of a part, in their order, with so many open around them
unfoldable pub of_query : Bool → ℕ → Query → List Item
of_query m e (Queries.nothing n) = sign Tokens.token·opens ∷ sign Tokens.token·closes ∷ []
of_query m e (Queries.text n t) = sign Tokens.token·hash ∷ number t ∷ []
of_query m e (Queries.element n l q) = number l ∷ sign Tokens.token·inside ∷ many e q ∷ sign Tokens.token·outside ∷ []
of_query true e (Queries.pair n p q) = one e p ∷ sign Tokens.token·comma ∷ many e q ∷ []
of_query false e (Queries.pair n p q) = sign Tokens.token·opens ∷ one e p ∷ sign Tokens.token·comma ∷ many e q ∷ sign Tokens.token·closes ∷ []
of_query m e (Queries.variable n v) = sign Tokens.token·dollar ∷ number v ∷ []
of_query m e (Queries.child n v w) = sign Tokens.token·dollar ∷ number v ∷ sign Tokens.token·slash ∷ test w ∷ []
of_query m e (Queries.dos n v w) = sign Tokens.token·dollar ∷ number v ∷ sign Tokens.token·slashes ∷ test w ∷ []
of_query m e (Queries.for n v p q) = sign Tokens.token·for ∷ sign Tokens.token·dollar ∷ number v ∷ sign Tokens.token·in ∷ one e p ∷ sign Tokens.token·return ∷ one e q ∷ []
of_query m e (Queries.let_in n v p q) = sign Tokens.token·let ∷ sign Tokens.token·dollar ∷ number v ∷ sign Tokens.token·gets ∷ one e p ∷ sign Tokens.token·return ∷ one e q ∷ []
of_query m e (Queries.when n p q) = sign Tokens.token·when ∷ cond e p ∷ sign Tokens.token·return ∷ one e q ∷ []

unfoldable pub of_cond : ℕ → Cond → List Item
of_cond e (Queries.always n) = sign Tokens.token·true ∷ []
of_cond e (Queries.never n) = sign Tokens.token·false ∷ []
of_cond e (Queries.equal n v w) = sign Tokens.token·dollar ∷ number v ∷ sign Tokens.token·equals ∷ sign Tokens.token·dollar ∷ number w ∷ []
of_cond e (Queries.empty n v) = sign Tokens.token·empty ∷ sign Tokens.token·dollar ∷ number v ∷ []
of_cond e (Queries.or n p q) = sign Tokens.token·opens ∷ cond e p ∷ sign Tokens.token·or ∷ cond e q ∷ sign Tokens.token·closes ∷ []
of_cond e (Queries.not n p) = sign Tokens.token·not ∷ cond e p ∷ []

abbrev pub parts_of : ℕ → Item → List Item
parts_of e (piece k v) = []
parts_of e (query m d q) = of_query m e q
parts_of e (cond d p) = of_cond e p

-- WHETHER IT OPENS: a grouping ( is its pair's
unfoldable pub query_opens : Bool → Query → Bool
query_opens m (Queries.nothing n) = true
query_opens m (Queries.text n t) = false
query_opens m (Queries.element n l q) = true
query_opens m (Queries.pair n p q) = not m
query_opens m (Queries.variable n v) = false
query_opens m (Queries.child n v w) = false
query_opens m (Queries.dos n v w) = false
query_opens m (Queries.for n v p q) = true
query_opens m (Queries.let_in n v p q) = true
query_opens m (Queries.when n p q) = true

unfoldable pub cond_opens : Cond → Bool
cond_opens (Queries.always n) = false
cond_opens (Queries.never n) = false
cond_opens (Queries.equal n v w) = false
cond_opens (Queries.empty n v) = false
cond_opens (Queries.or n p q) = true
cond_opens (Queries.not n p) = true

abbrev pub opens : Item → Bool
opens (piece k v) = false
opens (query m d q) = query_opens m q
opens (cond d p) = cond_opens p
