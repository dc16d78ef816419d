-- A scope of stretches: binding, and when a table of forests and a scope show the environment of `meaning`.
-- Assumes nothing.
use Rattle.std.specs.Prelude.{◌≡◌, List, ℕ, ◌*◌, ◌-◌, ◌≤◌, ◌<◌, length, get_or, set, take, drop, replicate}
use Rattle.meaning.specs.Base.{forest_width}
use Rattle.meaning.specs.Forests.{forest_words}
use Rattle.meaning.specs.Running.{Env, value_of}
use Rattle.spans.specs.declared.Span.{Span}
use Rattle.spans.specs.declared.Spans.{Spans}

-- the stretch of no entries
abbrev pub nowhere : Span
nowhere = record { from = 0; to = 0 }

-- a variable's stretch, where it begins and where it ends
abbrev pub standing : Spans → ℕ → Span
standing s v = get_or s.at v nowhere

abbrev pub start : Spans → ℕ → ℕ
start s v = (standing s v).from

abbrev pub stop : Spans → ℕ → ℕ
stop s v = (standing s v).to

-- the scope with another stretch for a variable
abbrev pub bound : Spans → ℕ → Span → Spans
bound s v x = record { at = set s.at v x }

-- every stretch empty
abbrev pub none : Spans
none = record { at = replicate 64 nowhere }

-- the words of a table's entries from a on up to e
unfoldable pub part : List ℕ → ℕ → ℕ → List ℕ
part held a e = take (forest_width * e - forest_width * a) (drop (forest_width * a) held)

-- each variable's stretch holds its forest
pub record Shows (held : List ℕ) (s : Spans) (r : Env) : Type 0 where
  pub is : (v : ℕ) → v < 64 → part held (start s v) (stop s v) ≡ forest_words (value_of r v)

-- each stretch lies among the first n entries
pub record Inside (s : Spans) (n : ℕ) : Type 0 where
  pub long : length s.at ≡ 64
  pub is : (v : ℕ) → v < 64 → (start s v ≤ stop s v) × (stop s v ≤ n)
