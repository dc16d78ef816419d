-- Bytes spelled into a lent buffer behind what stands there: what has no room is counted alone.
-- Assumes nothing.
use Rattle.std.specs.Prelude.{◌≡◌, List, [], ◌++◌, ℕ, ◌+◌, ◌≤◌, length, take}
use Rattle.meaning.specs.Base.{find, otherwise}
use Rattle.meaning.specs.Tokens.{words, signs}

-- a buffer that is written on from one place to another; where there is room up to that, it has `more` behind what stood before it
pub record Spells (from to : ℕ) (more before after : List ℕ) : Type 0 where
  pub next : to ≡ from + length more
  pub long : length after ≡ length before
  pub behind : to ≤ length before → take to after ≡ take from before ++ more

-- the bytes of a word or a sign
abbrev pub spelled : ℕ → List ℕ
spelled k = otherwise [] (find k (words ++ signs))
