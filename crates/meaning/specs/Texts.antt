-- The text form of queries (request i): its grammar, read a token at a time, with refusals 22, 6, 23 and 5; the records that a text gives; and 30.
-- Assumes nothing.
use Rattle.std.specs.Prelude.{ℕ, zero, suc, ◌+◌, Bool, true, false, ◌&&◌, List, [], ◌∷◌, ◌++◌, leb, ltb, eqb, length, take}
use Rattle.std.proofs.Math.Option.{Option, none, some}
use Rattle.meaning.specs.Base.{Out, ok, refused, ◌>>=◌, require, find, concat_map}
use Rattle.meaning.specs.Kinds
use Rattle.meaning.specs.Records.{Form, forms, Node, node}
use Rattle.meaning.specs.Queries.{Cond, always, never, equal, empty, or, not, Query, nothing, text, element, pair, variable, child, dos, for, let_in, when, choose}
use Rattle.meaning.specs.Answers.{record_of}
use Rattle.meaning.specs.Tokens

-- HOW FAR a text is read: the offset behind the last token, and how many nodes there are
pub record Here : Type 0 where
  pub at : ℕ
  pub nodes : ℕ

abbrev pub here : ℕ → ℕ → Here
here at nodes = record { at = at; nodes = nodes }

abbrev pub Read : Type 0 → Type 0
Read A = Out (A × Here)

module _ (s : List ℕ) where
  -- the next token, and where the text goes on behind it
  abbrev pub look : Here → Tokens.Placed
  look h = Tokens.token_at s h.at

  abbrev pub kind : Here → ℕ
  kind h = (look h).token.kind

  abbrev pub past : Here → Here
  past h = here ((look h).place + (look h).token.bytes) h.nodes

  -- a node, whose number is how many there were: "children first, left first"
  abbrev pub one : {A : Type 0} → (ℕ → A) → Here → Read A
  one f h = ok (f h.nodes, here h.at (suc h.nodes))

  -- 22 "text not in the grammar", at the token
  abbrev pub unexpected : {A : Type 0} → Here → Out A
  unexpected h = refused 22 (look h).place

  unfoldable pub expect : ℕ → Here → Out Here
  expect k h = do
    _ ← require (eqb (kind h) k) 22 (look h).place
    ok (past h)

  -- 6 "a number out of range"
  unfoldable pub number_in : ℕ → ℕ → Here → Read ℕ
  number_in low high h = do
    _ ← require (eqb (kind h) Tokens.token·number) 22 (look h).place
    _ ← require (leb low (look h).token.value && leb (look h).token.value high) 6 (look h).place
    ok ((look h).token.value, past h)

  -- 23 "over 100 of [, ( .., for, let, when and not open at once", at the one too many
  unfoldable pub opened : ℕ → Here → Out Here
  opened deep h = do
    _ ← require (ltb deep 100) 23 (look h).place
    ok (past h)

  -- "$ and a variable number"
  unfoldable pub variable_at : Here → Read ℕ
  variable_at h = do
    i ← expect Tokens.token·dollar h
    number_in 0 63 i

  -- "a test (node, text or a label number)"
  unfoldable pub test_at : Here → Read ℕ
  test_at h =
      choose (kind h)
      ((Tokens.token·node, λ _. ok (0, past h))
      ∷ (Tokens.token·text, λ _. ok (65535, past h))
      ∷ [])
      (number_in 1 65534 h)

  -- CONDITIONS: "true, false, $1 = $2, empty $1, not condition or (condition or condition)"
  unfoldable pub cond_by : (ℕ → Here → Read Cond) → ℕ → Here → Read Cond
  cond_by cond deep h =
      choose (kind h)
      ((Tokens.token·true, λ _. one always (past h))
      ∷ (Tokens.token·false, λ _. one never (past h))
      ∷ (
        Tokens.token·dollar,
        λ _. do
          v ← variable_at h
          i ← expect Tokens.token·equals v.1
          w ← variable_at i
          one (λ n. equal n v.0 w.0) w.1,
      )
      ∷ (
        Tokens.token·empty,
        λ _. do
          v ← variable_at (past h)
          one (λ n. empty n v.0) v.1,
      )
      ∷ (
        Tokens.token·not,
        λ _. do
          i ← opened deep h
          p ← cond (suc deep) i
          one (λ n. not n p.0) p.1,
      )
      ∷ (
        Tokens.token·opens,
        λ _. do
          i ← opened deep h
          p ← cond (suc deep) i
          j ← expect Tokens.token·or p.1
          q ← cond (suc deep) j
          l ← expect Tokens.token·closes q.1
          one (λ n. or n p.0 q.0) l,
      )
      ∷ [])
      (unexpected h)

  unfoldable pub cond_at : ℕ → ℕ → Here → Read Cond
  cond_at zero deep h = unexpected h
  cond_at (suc k) deep h = cond_by (λ o i. cond_at k o i) deep h

  -- "$ and a variable number, optionally followed by / or // and a test"
  unfoldable pub step_at : ℕ → Here → Read Query
  step_at v h =
      choose (kind h)
      ((
        Tokens.token·slash,
        λ _. do
          t ← test_at (past h)
          one (λ n. child n v t.0) t.1,
      )
      ∷ (
        Tokens.token·slashes,
        λ _. do
          t ← test_at (past h)
          one (λ n. dos n v t.0) t.1,
      )
      ∷ [])
      (one (λ n. variable n v) h)

  -- "(), .. a parenthesised query", behind the parenthesis
  unfoldable pub group_at : (ℕ → Here → Read Query) → ℕ → Here → Read Query
  group_at query deep h =
      choose (kind h)
      ((Tokens.token·closes, λ _. one nothing (past h)) ∷ [])
      (do
        q ← query (suc deep) h
        i ← expect Tokens.token·closes q.1
        ok (q.0, i))

  -- ITEMS
  unfoldable pub item_by : (ℕ → Here → Read Query) → (ℕ → Here → Read Query) → (ℕ → Here → Read Cond) → ℕ → Here → Read Query
  item_by query item cond deep h =
      choose (kind h)
      ((
        Tokens.token·opens,
        λ _. do
          i ← opened deep h
          group_at query deep i,
      )
      ∷ (
        Tokens.token·hash,
        λ _. do
          t ← number_in 0 65535 (past h)
          one (λ n. text n t.0) t.1,
      )
      ∷ (
        Tokens.token·number,
        λ _. do
          l ← number_in 1 65534 h
          _ ← expect Tokens.token·inside l.1
          i ← opened deep l.1
          q ← query (suc deep) i
          j ← expect Tokens.token·outside q.1
          one (λ n. element n l.0 q.0) j,
      )
      ∷ (
        Tokens.token·dollar,
        λ _. do
          v ← variable_at h
          step_at v.0 v.1,
      )
      ∷ (
        Tokens.token·for,
        λ _. do
          i ← opened deep h
          v ← variable_at i
          j ← expect Tokens.token·in v.1
          p ← item (suc deep) j
          l ← expect Tokens.token·return p.1
          q ← item (suc deep) l
          one (λ n. for n v.0 p.0 q.0) q.1,
      )
      ∷ (
        Tokens.token·let,
        λ _. do
          i ← opened deep h
          v ← variable_at i
          j ← expect Tokens.token·gets v.1
          p ← item (suc deep) j
          l ← expect Tokens.token·return p.1
          q ← item (suc deep) l
          one (λ n. let_in n v.0 p.0 q.0) q.1,
      )
      ∷ (
        Tokens.token·when,
        λ _. do
          i ← opened deep h
          p ← cond (suc deep) i
          l ← expect Tokens.token·return p.1
          q ← item (suc deep) l
          one (λ n. when n p.0 q.0) q.1,
      )
      ∷ [])
      (unexpected h)

  -- "items parted by commas", "Commas group to the right": one item, or as many as there are
  unfoldable pub joined_by : (Here → Read Query) → Bool → Query × Here → Read Query
  joined_by more false p = ok p
  joined_by more true p =
      choose (kind p.1)
      ((
        Tokens.token·comma,
        λ _. do
          q ← more (past p.1)
          one (λ n. pair n p.0 q.0) q.1,
      )
      ∷ [])
      (ok p)

  -- read k deep; each of them takes a token, so none is deeper than the text is long
  unfoldable pub query_at : ℕ → Bool → ℕ → Here → Read Query
  query_at zero many deep h = unexpected h
  query_at (suc k) many deep h = do
    p ← item_by (λ o i. query_at k true o i) (λ o i. query_at k false o i) (λ o i. cond_at k o i) deep h
    joined_by (λ i. query_at k true deep i) many p

-- THE QUERY of a text: "then 5 at place 0 over 1,024 nodes"
unfoldable pub parse : List ℕ → Out Query
parse s = do
  q ← query_at s (suc (length s)) true 0 (here 0 0)
  _ ← expect s Tokens.token·end q.1
  _ ← require (leb q.1.nodes 1024) 5 0
  ok q.0

-- WHAT A TEXT GIVES: "exactly the query section of a job, children first, left first". The node of a condition or query, and the nodes of all of it
abbrev pub cond_no : Cond → ℕ
cond_no (always n) = n
cond_no (never n) = n
cond_no (equal n v w) = n
cond_no (empty n v) = n
cond_no (or n p q) = n
cond_no (not n p) = n

abbrev pub query_no : Query → ℕ
query_no (nothing n) = n
query_no (text n t) = n
query_no (element n l q) = n
query_no (pair n p q) = n
query_no (variable n v) = n
query_no (child n v w) = n
query_no (dos n v w) = n
query_no (for n v p q) = n
query_no (let_in n v p q) = n
query_no (when n p q) = n

unfoldable pub cond_nodes : Cond → List Node
cond_nodes (always n) = node Kinds.condition·true 0 0 0 ∷ []
cond_nodes (never n) = node Kinds.condition·false 0 0 0 ∷ []
cond_nodes (equal n v w) = node Kinds.condition·equal v w 0 ∷ []
cond_nodes (empty n v) = node Kinds.condition·empty v 0 0 ∷ []
cond_nodes (or n p q) = cond_nodes p ++ (cond_nodes q ++ (node Kinds.condition·or (cond_no p) (cond_no q) 0 ∷ []))
cond_nodes (not n p) = cond_nodes p ++ (node Kinds.condition·not (cond_no p) 0 0 ∷ [])

unfoldable pub query_nodes : Query → List Node
query_nodes (nothing n) = node Kinds.query·empty 0 0 0 ∷ []
query_nodes (text n t) = node Kinds.query·text t 0 0 ∷ []
query_nodes (element n l q) = query_nodes q ++ (node Kinds.query·element l (query_no q) 0 ∷ [])
query_nodes (pair n p q) = query_nodes p ++ (query_nodes q ++ (node Kinds.query·pair (query_no p) (query_no q) 0 ∷ []))
query_nodes (variable n v) = node Kinds.query·variable v 0 0 ∷ []
query_nodes (child n v w) = node Kinds.query·child v w 0 ∷ []
query_nodes (dos n v w) = node Kinds.query·dos v w 0 ∷ []
query_nodes (for n v p q) = query_nodes p ++ (query_nodes q ++ (node Kinds.query·for v (query_no p) (query_no q) ∷ []))
query_nodes (let_in n v p q) = query_nodes p ++ (query_nodes q ++ (node Kinds.query·let v (query_no p) (query_no q) ∷ []))
query_nodes (when n p q) = cond_nodes p ++ (query_nodes q ++ (node Kinds.query·when (cond_no p) (query_no q) 0 ∷ []))

-- as many fields as a record of its kind has
abbrev pub field_count : Option Form → ℕ
field_count none = 0
field_count (some f) = length f.sorts

abbrev pub node_record : Node → List ℕ
node_record x = record_of x.kind (take (field_count (find x.kind forms)) (x.a ∷ x.b ∷ x.c ∷ []))

abbrev pub section : Query → List ℕ
section q = concat_map node_record (query_nodes q)

-- "30 if the buffer is too short, at the bytes needed"
abbrev pub fitted : ℕ → List ℕ → Out (List ℕ)
fitted room bytes = do
  _ ← require (leb (length bytes) room) 30 (length bytes)
  ok bytes

-- PARSING a text, into a buffer of so many bytes: refusals 22, 6, 23, 5, 30
unfoldable pub parse_text : ℕ → List ℕ → Out (List ℕ)
parse_text room s = do
  q ← parse s
  fitted room (section q)
