-- The writer of the text form (request i): the text of a job's query, with refusals 1 to 12, then 23 and 30.
-- Assumes nothing.
use Rattle.std.specs.Prelude.{ℕ, zero, suc, ◌+◌, ◌-◌, ◌/◌, ◌%◌, min, Bool, true, false, ◌&&◌, ◌||◌, List, [], ◌∷◌, ◌++◌, leb, ltb, eqb, length}
use Rattle.std.proofs.Math.Option.{Option, none, some}
use Rattle.meaning.specs.Base.{Out, ok, ◌>>=◌, refuse_at, lent, find, otherwise, Caps}
use Rattle.meaning.specs.Records.{Tables}
use Rattle.meaning.specs.Checks.{read_job}
use Rattle.meaning.specs.Queries.{Cond, always, never, equal, empty, or, not, Query, nothing, text, element, pair, variable, child, dos, for, let_in, when, query_at}
use Rattle.meaning.specs.Tokens
use Rattle.meaning.specs.Texts.{fitted}

-- THE TOKENS of a query, each a number and, of a decimal number, its value
abbrev pub Piece : Type 0
Piece = ℕ × ℕ

abbrev pub plain : ℕ → Piece
plain k = (k, 0)

abbrev pub decimal : ℕ → Piece
decimal n = (Tokens.token·number, n)

abbrev pub of_variable : ℕ → List Piece
of_variable v = plain Tokens.token·dollar ∷ decimal v ∷ []

-- a test word: 0 is `node`, 65535 is `text`
abbrev pub of_test : ℕ → Piece
of_test w = elim (eqb w 0) [ true ↦ plain Tokens.token·node | false ↦ elim (eqb w 65535) [ true ↦ plain Tokens.token·text | false ↦ decimal w ] ]

unfoldable pub of_cond : Cond → List Piece
of_cond (always n) = plain Tokens.token·true ∷ []
of_cond (never n) = plain Tokens.token·false ∷ []
of_cond (equal n v w) = of_variable v ++ (plain Tokens.token·equals ∷ of_variable w)
of_cond (empty n v) = plain Tokens.token·empty ∷ of_variable v
of_cond (or n p q) = plain Tokens.token·opens ∷ (of_cond p ++ (plain Tokens.token·or ∷ (of_cond q ++ (plain Tokens.token·closes ∷ []))))
of_cond (not n p) = plain Tokens.token·not ∷ of_cond p

-- "parentheses only where needed": around a pair where the grammar has an item
abbrev pub around : Bool → List Piece → List Piece
around true ps = ps
around false ps = plain Tokens.token·opens ∷ (ps ++ (plain Tokens.token·closes ∷ []))

-- where there may be many items, or one
unfoldable pub of_query : Bool → Query → List Piece
of_query many (nothing n) = plain Tokens.token·opens ∷ plain Tokens.token·closes ∷ []
of_query many (text n t) = plain Tokens.token·hash ∷ decimal t ∷ []
of_query many (element n l q) = decimal l ∷ plain Tokens.token·inside ∷ (of_query true q ++ (plain Tokens.token·outside ∷ []))
of_query many (pair n p q) = around many (of_query false p ++ (plain Tokens.token·comma ∷ of_query true q))
of_query many (variable n v) = of_variable v
of_query many (child n v w) = of_variable v ++ (plain Tokens.token·slash ∷ of_test w ∷ [])
of_query many (dos n v w) = of_variable v ++ (plain Tokens.token·slashes ∷ of_test w ∷ [])
of_query many (for n v p q) = plain Tokens.token·for ∷ (of_variable v ++ (plain Tokens.token·in ∷ (of_query false p ++ (plain Tokens.token·return ∷ of_query false q))))
of_query many (let_in n v p q) = plain Tokens.token·let ∷ (of_variable v ++ (plain Tokens.token·gets ∷ (of_query false p ++ (plain Tokens.token·return ∷ of_query false q))))
of_query many (when n p q) = plain Tokens.token·when ∷ (of_cond p ++ (plain Tokens.token·return ∷ of_query false q))

-- THEIR BYTES: a decimal number without leading zeros (k digits at most)
unfoldable pub digits : ℕ → ℕ → List ℕ
digits zero n = []
digits (suc k) n = elim (ltb n 10) [ true ↦ (48 + n) ∷ [] | false ↦ digits k (n / 10) ++ ((48 + n % 10) ∷ []) ]

abbrev pub piece_bytes : Piece → List ℕ
piece_bytes p = elim (eqb p.0 Tokens.token·number) [ true ↦ digits 5 p.1 | false ↦ otherwise [] (find p.0 (Tokens.words ++ Tokens.signs)) ]

-- "one space between two of these if either is a word, := or ="
abbrev pub is_wide : Piece → Bool
is_wide p = (leb Tokens.token·for p.0 && leb p.0 Tokens.token·text) || eqb p.0 Tokens.token·gets || eqb p.0 Tokens.token·equals

abbrev pub between : Bool → List ℕ
between true = 32 ∷ []
between false = []

unfoldable pub laid : List Piece → List ℕ
laid [] = []
laid (p ∷ []) = piece_bytes p
laid (p ∷ q ∷ ps) = piece_bytes p ++ (between (is_wide p || is_wide q) ++ laid (q ∷ ps))

abbrev pub text_of : Query → List ℕ
text_of q = laid (of_query true q)

-- 23 "at the lowest node that opens more (a grouping ( is its pair's)": the nodes that open when 100 are open
abbrev pub over : ℕ → ℕ → List ℕ
over deep n = elim (ltb deep 100) [ true ↦ [] | false ↦ n ∷ [] ]

unfoldable pub deep_cond : ℕ → Cond → List ℕ
deep_cond deep (always n) = []
deep_cond deep (never n) = []
deep_cond deep (equal n v w) = []
deep_cond deep (empty n v) = []
deep_cond deep (or n p q) = over deep n ++ (deep_cond (suc deep) p ++ deep_cond (suc deep) q)
deep_cond deep (not n p) = over deep n ++ deep_cond (suc deep) p

unfoldable pub deep_query : Bool → ℕ → Query → List ℕ
deep_query many deep (nothing n) = over deep n
deep_query many deep (text n t) = []
deep_query many deep (element n l q) = over deep n ++ deep_query true (suc deep) q
deep_query true deep (pair n p q) = deep_query false deep p ++ deep_query true deep q
deep_query false deep (pair n p q) = over deep n ++ (deep_query false (suc deep) p ++ deep_query true (suc deep) q)
deep_query many deep (variable n v) = []
deep_query many deep (child n v w) = []
deep_query many deep (dos n v w) = []
deep_query many deep (for n v p q) = over deep n ++ (deep_query false (suc deep) p ++ deep_query false (suc deep) q)
deep_query many deep (let_in n v p q) = over deep n ++ (deep_query false (suc deep) p ++ deep_query false (suc deep) q)
deep_query many deep (when n p q) = over deep n ++ (deep_cond (suc deep) p ++ deep_query false (suc deep) q)

unfoldable pub least : List ℕ → Option ℕ
least [] = none
least (n ∷ ns) = some (otherwise n (least_with n (least ns)))
  where
    least_with : ℕ → Option ℕ → Option ℕ
    least_with n none = none
    least_with n (some m) = some (min n m)

-- THE TEXT of a query, into a buffer of so many bytes: refusals 23 and 30
abbrev pub spoken : ℕ → Query → Out (List ℕ)
spoken room q = do
  _ ← refuse_at 23 (least (deep_query true 0 q))
  fitted room (text_of q)

-- WRITING the query of a job: refusals 1 to 12, then those; the tables stay as reading leaves them
pub record Spoken : Type 0 where
  pub job : Tables
  pub text : List ℕ

unfoldable pub write_text : Caps → ℕ → List ℕ → Out Spoken
write_text caps room s = do
  t ← read_job caps s
  f ← spoken room (query_at t.code (length t.code - 1))
  ok (record { job = t; text = f })

abbrev pub spoken_of : Out Spoken → Out Tables
spoken_of o = o >>= λ p. ok p.job

abbrev pub text_bytes : ℕ → Out Spoken → List ℕ
text_bytes room o = lent room (λ (p : Spoken). p.text) o
