-- A token by its number.
-- Assumes nothing.
use mathlib.Core.Path.{◌≡◌, refl, ap, ◌∙◌}
use mathlib.Core.Logic.{◌≢◌}
use mathlib.Core.List.{[], ◌∷◌}
use Prim.Native.Nat.{ℕ}
use lib.ListN.{get_or}
use Rattle.tokens.specs.declared.Token.{Token}
use Rattle.tokens.specs.Says.{kind_of, value_of}

-- the token of a number, and of a value where it is a decimal number
abbrev pub token_of : ℕ → ℕ → Token
token_of k v = get_or (Token.End ∷ Token.Strange ∷ Token.Number v ∷ Token.For ∷ Token.In ∷ Token.Return ∷ Token.Let ∷ Token.When ∷ Token.True ∷ Token.False ∷ Token.Empty ∷ Token.Not ∷ Token.Or ∷ Token.Node ∷ Token.Text ∷ Token.Opens ∷ Token.Closes ∷ Token.Inside ∷ Token.Outside ∷ Token.Comma ∷ Token.Hash ∷ Token.Dollar ∷ Token.Slash ∷ Token.Slashes ∷ Token.Gets ∷ Token.Equals ∷ []) k Token.End

pub token_back : (t : Token) → t ≡ token_of (kind_of t) (value_of t)
token_back Token.End = refl
token_back Token.Strange = refl
token_back (Token.Number n) = refl
token_back Token.For = refl
token_back Token.In = refl
token_back Token.Return = refl
token_back Token.Let = refl
token_back Token.When = refl
token_back Token.True = refl
token_back Token.False = refl
token_back Token.Empty = refl
token_back Token.Not = refl
token_back Token.Or = refl
token_back Token.Node = refl
token_back Token.Text = refl
token_back Token.Opens = refl
token_back Token.Closes = refl
token_back Token.Inside = refl
token_back Token.Outside = refl
token_back Token.Comma = refl
token_back Token.Hash = refl
token_back Token.Dollar = refl
token_back Token.Slash = refl
token_back Token.Slashes = refl
token_back Token.Gets = refl
token_back Token.Equals = refl

-- one that is not u has another number than u's; refl shows that u is told by its number alone
pub other_kind : (t u : Token) → ((v : ℕ) → token_of (kind_of u) v ≡ u) → (t ≡ u → ⊥) → kind_of t ≢ kind_of u
other_kind t u alone n e = n (token_back t ∙ ap (λ (k : ℕ). token_of k (value_of t)) e ∙ alone (value_of t))

-- one that is no decimal number
pub other_number : (t : Token) → ((n : ℕ) → t ≡ Token.Number n → ⊥) → kind_of t ≢ 2
other_number t n e = n (value_of t) (token_back t ∙ ap (λ (k : ℕ). token_of k (value_of t)) e)
