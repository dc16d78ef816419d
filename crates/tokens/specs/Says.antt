-- What the code's tokens say.
-- Assumes nothing.
use Rattle.std.specs.Prelude.{◌≡◌, Bool, true, List, ℕ, ◌+◌, ◌<◌, min, length, get_or}
use Rattle.meaning.specs.Tokens
use Rattle.tokens.specs.declared.Class.{Class}
use Rattle.tokens.specs.declared.Token.{Token}
use Rattle.tokens.specs.declared.Placed.{Placed}

-- the test of a class
abbrev pub test_of : Class → ℕ → Bool
test_of Class.Blank c = Tokens.is_blank c
test_of Class.Letter c = Tokens.is_letter c
test_of Class.Digit c = Tokens.is_digit c

-- digits all
pub record Digits (s : List ℕ) : Type 0 where
  pub is : (i : ℕ) → i < length s → Tokens.is_digit (get_or s i 0) ≡ true

-- a token's number
abbrev pub kind_of : Token → ℕ
kind_of Token.End = Tokens.token·end
kind_of Token.Strange = Tokens.token·none
kind_of (Token.Number n) = Tokens.token·number
kind_of Token.For = Tokens.token·for
kind_of Token.In = Tokens.token·in
kind_of Token.Return = Tokens.token·return
kind_of Token.Let = Tokens.token·let
kind_of Token.When = Tokens.token·when
kind_of Token.True = Tokens.token·true
kind_of Token.False = Tokens.token·false
kind_of Token.Empty = Tokens.token·empty
kind_of Token.Not = Tokens.token·not
kind_of Token.Or = Tokens.token·or
kind_of Token.Node = Tokens.token·node
kind_of Token.Text = Tokens.token·text
kind_of Token.Opens = Tokens.token·opens
kind_of Token.Closes = Tokens.token·closes
kind_of Token.Inside = Tokens.token·inside
kind_of Token.Outside = Tokens.token·outside
kind_of Token.Comma = Tokens.token·comma
kind_of Token.Hash = Tokens.token·hash
kind_of Token.Dollar = Tokens.token·dollar
kind_of Token.Slash = Tokens.token·slash
kind_of Token.Slashes = Tokens.token·slashes
kind_of Token.Gets = Tokens.token·gets
kind_of Token.Equals = Tokens.token·equals

-- a decimal number's value: none is told apart from 65,536 on
abbrev pub value_of : Token → ℕ
value_of Token.End = 0
value_of Token.Strange = 0
value_of (Token.Number n) = n
value_of Token.For = 0
value_of Token.In = 0
value_of Token.Return = 0
value_of Token.Let = 0
value_of Token.When = 0
value_of Token.True = 0
value_of Token.False = 0
value_of Token.Empty = 0
value_of Token.Not = 0
value_of Token.Or = 0
value_of Token.Node = 0
value_of Token.Text = 0
value_of Token.Opens = 0
value_of Token.Closes = 0
value_of Token.Inside = 0
value_of Token.Outside = 0
value_of Token.Comma = 0
value_of Token.Hash = 0
value_of Token.Dollar = 0
value_of Token.Slash = 0
value_of Token.Slashes = 0
value_of Token.Gets = 0
value_of Token.Equals = 0

-- a token of the text, as the code has it
pub record Shows (x : Tokens.Token) (t : Token) : Type 0 where
  pub kind : kind_of t ≡ x.kind
  pub value : value_of t ≡ min x.value 65536

-- a sign with how many bytes it has
pub record Draws (x : Tokens.Token) (r : Token × ℕ) : Type 0 where
  pub token : Shows x r.0
  pub bytes : r.1 ≡ x.bytes

-- and with its place
pub record Tells (x : Tokens.Placed) (r : Placed) : Type 0 where
  pub token : Shows x.token r.token
  pub place : r.place ≡ x.place
  pub next : r.next ≡ x.place + x.token.bytes
