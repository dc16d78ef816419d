-- The parts of an answer file, and a lent buffer that they are written into one behind the other.
-- Assumes nothing.
use Rattle.std.specs.Prelude.{◌≡◌, List, ◌++◌, ℕ, ◌+◌, length, take, drop}
use Rattle.meaning.specs.Base.{concat_map}
use Rattle.meaning.specs.Types.{Table, Defs}
use Rattle.meaning.specs.Formed.{Formed}
use Rattle.meaning.specs.Answers.{type_record, def_record}

-- "the type records from entry 2 on, the definition records"
abbrev pub type_bytes : Table → List ℕ
type_bytes T = concat_map type_record (drop 2 T)

abbrev pub def_bytes : Defs → List ℕ
def_bytes D = concat_map def_record D

-- a type table that is formed with some definitions
pub record Typed (T : Table) : Type 0 where
  pub defs : Defs
  pub formed : Formed defs T

-- a lent buffer that holds these bytes up to a place
pub record Holds (place : ℕ) (ws buffer : List ℕ) : Type 0 where
  pub sized : length ws ≡ place
  pub is : take place buffer ≡ ws

-- a buffer that is written on from one place to another: whatever it held, it holds `more` behind that
pub record Extends (from to : ℕ) (more before after : List ℕ) : Type 0 where
  pub next : to ≡ from + length more
  pub behind : {ws : List ℕ} → Holds from ws before → Holds to (ws ++ more) after
