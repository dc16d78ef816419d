-- The tokens of a text in which designers type a query (request i): signs, words and decimal numbers, with blanks free between them.
-- Assumes nothing.
use Rattle.std.specs.Prelude.{ℕ, suc, ◌+◌, ◌*◌, ◌-◌, Bool, true, false, ◌&&◌, ◌||◌, List, [], ◌∷◌, leb, eqb, length, take, drop}
use Rattle.meaning.specs.Forests.{same_words}

-- THE TOKENS have numbers: the end of the text, what is no token, a decimal number
abbrev pub token·end : ℕ
token·end = 0

abbrev pub token·none : ℕ
token·none = 1

abbrev pub token·number : ℕ
token·number = 2

-- words: for in return let when true false empty not or node text
abbrev pub token·for : ℕ
token·for = 3

abbrev pub token·in : ℕ
token·in = 4

abbrev pub token·return : ℕ
token·return = 5

abbrev pub token·let : ℕ
token·let = 6

abbrev pub token·when : ℕ
token·when = 7

abbrev pub token·true : ℕ
token·true = 8

abbrev pub token·false : ℕ
token·false = 9

abbrev pub token·empty : ℕ
token·empty = 10

abbrev pub token·not : ℕ
token·not = 11

abbrev pub token·or : ℕ
token·or = 12

abbrev pub token·node : ℕ
token·node = 13

abbrev pub token·text : ℕ
token·text = 14

-- signs: ( ) [ ] , # $ / // := =
abbrev pub token·opens : ℕ
token·opens = 15

abbrev pub token·closes : ℕ
token·closes = 16

abbrev pub token·inside : ℕ
token·inside = 17

abbrev pub token·outside : ℕ
token·outside = 18

abbrev pub token·comma : ℕ
token·comma = 19

abbrev pub token·hash : ℕ
token·hash = 20

abbrev pub token·dollar : ℕ
token·dollar = 21

abbrev pub token·slash : ℕ
token·slash = 22

abbrev pub token·slashes : ℕ
token·slashes = 23

abbrev pub token·gets : ℕ
token·gets = 24

abbrev pub token·equals : ℕ
token·equals = 25

-- SPELLING, in ASCII
unfoldable pub words : List (ℕ × List ℕ)
words =
    (token·for, 102 ∷ 111 ∷ 114 ∷ [])
    ∷ (token·in, 105 ∷ 110 ∷ [])
    ∷ (token·return, 114 ∷ 101 ∷ 116 ∷ 117 ∷ 114 ∷ 110 ∷ [])
    ∷ (token·let, 108 ∷ 101 ∷ 116 ∷ [])
    ∷ (token·when, 119 ∷ 104 ∷ 101 ∷ 110 ∷ [])
    ∷ (token·true, 116 ∷ 114 ∷ 117 ∷ 101 ∷ [])
    ∷ (token·false, 102 ∷ 97 ∷ 108 ∷ 115 ∷ 101 ∷ [])
    ∷ (token·empty, 101 ∷ 109 ∷ 112 ∷ 116 ∷ 121 ∷ [])
    ∷ (token·not, 110 ∷ 111 ∷ 116 ∷ [])
    ∷ (token·or, 111 ∷ 114 ∷ [])
    ∷ (token·node, 110 ∷ 111 ∷ 100 ∷ 101 ∷ [])
    ∷ (token·text, 116 ∷ 101 ∷ 120 ∷ 116 ∷ [])
    ∷ []

-- a sign of two bytes before the one that it begins with
unfoldable pub signs : List (ℕ × List ℕ)
signs =
    (token·opens, 40 ∷ [])
    ∷ (token·closes, 41 ∷ [])
    ∷ (token·inside, 91 ∷ [])
    ∷ (token·outside, 93 ∷ [])
    ∷ (token·comma, 44 ∷ [])
    ∷ (token·hash, 35 ∷ [])
    ∷ (token·dollar, 36 ∷ [])
    ∷ (token·slashes, 47 ∷ 47 ∷ [])
    ∷ (token·slash, 47 ∷ [])
    ∷ (token·gets, 58 ∷ 61 ∷ [])
    ∷ (token·equals, 61 ∷ [])
    ∷ []

-- BYTES. "Blanks (spaces, tabs, line ends)"
abbrev pub is_blank : ℕ → Bool
is_blank c = eqb c 32 || eqb c 9 || eqb c 10 || eqb c 13

abbrev pub is_letter : ℕ → Bool
is_letter c = leb 97 c && leb c 122

abbrev pub is_digit : ℕ → Bool
is_digit c = leb 48 c && leb c 57

-- how many bytes at the front pass a test
unfoldable pub run : (ℕ → Bool) → List ℕ → ℕ
run f [] = 0
run f (c ∷ s) = elim (f c) [ true ↦ suc (run f s) | false ↦ 0 ]

-- READING: a token's number, a decimal number's value, and how many bytes it has
pub record Token : Type 0 where
  pub kind : ℕ
  pub value : ℕ
  pub bytes : ℕ

abbrev pub token : ℕ → ℕ → ℕ → Token
token k v n = record { kind = k; value = v; bytes = n }

-- the word of these letters; letters that are no word are no token
unfoldable pub word_among : List (ℕ × List ℕ) → List ℕ → Token
word_among [] s = token token·none 0 (length s)
word_among (w ∷ ws) s = elim (same_words w.1 s) [ true ↦ token w.0 0 (length s) | false ↦ word_among ws s ]

-- the sign at the front
unfoldable pub sign_among : List (ℕ × List ℕ) → List ℕ → Token
sign_among [] s = token token·none 0 1
sign_among (g ∷ gs) s = elim (same_words g.1 (take (length g.1) s)) [ true ↦ token g.0 0 (length g.1) | false ↦ sign_among gs s ]

-- what decimal digits are behind a number
unfoldable pub decimal : ℕ → List ℕ → ℕ
decimal n [] = n
decimal n (c ∷ s) = decimal (10 * n + (c - 48)) s

-- the token at the front of bytes that begin with no blank: as many letters or digits as there are, or a sign
unfoldable pub front : List ℕ → Token
front [] = token token·end 0 0
front (c ∷ s) =
    elim (is_letter c) [
      | true ↦ word_among words (take (run is_letter (c ∷ s)) (c ∷ s))
      | false ↦ elim (is_digit c) [
        | true ↦ token token·number (decimal 0 (take (run is_digit (c ∷ s)) (c ∷ s))) (run is_digit (c ∷ s))
        | false ↦ sign_among signs (c ∷ s)
      ]
    ]

-- a token with the offset of its first byte; that of the end is the text's length
pub record Placed : Type 0 where
  pub token : Token
  pub place : ℕ

-- "Blanks .. are free between signs, words and decimal numbers": the next token from an offset on
unfoldable pub token_at : List ℕ → ℕ → Placed
token_at s at = record { token = front (drop (at + run is_blank (drop at s)) s); place = at + run is_blank (drop at s) }
