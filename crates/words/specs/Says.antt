-- What the code's answers say in document 01's terms.
-- Assumes nothing.
use Rattle.std.proofs.Math.Option as Math
use Rattle.std.specs.Prelude.{ℕ, Option, Some, None}
use Rattle.meaning.specs.Forests as Forests
use Rattle.words.specs.declared.Head.{Head}

-- what was looked for
abbrev pub found : Option ℕ → Math.Option ℕ
found (Some n) = Math.some n
found None = Math.none

-- the top of a tree or of an atom
abbrev pub head_of : Head → Forests.Head
head_of Head.Text = Forests.text
head_of (Head.Label l) = Forests.label l
