-- The four tables that reading stores into, as lists of words.
-- Assumes nothing.
use Rattle.std.specs.Prelude.{◌≡◌, List, [], ◌∷◌, ℕ, ◌+◌, ◌*◌, ◌≤◌, ◌<◌, length, Result, Ok, Err}
use Rattle.meaning.specs.Base.{Out, ok, refused, concat_map, zeros, padded, type_width, code_width, type_capacity}
use Rattle.meaning.specs.Types.{entry_words, table_words, entry_of}
use Rattle.meaning.specs.Records.{var_of, node_words, Tables, fresh}
use Rattle.refusals.specs.declared.Refusal.{Refusal}
use Rattle.refusals.specs.Says.{number_of}
use Rattle.records.specs.declared.Section.{Section}
use Rattle.records.specs.declared.Item.{Item}
use Rattle.reading.specs.declared.Counts.{Counts}
use Rattle.reading.specs.Says.{var_words}
use Rattle.reading.specs.Steps.{Counted, with}

pub record Lists : Type 0 where
  pub types : List ℕ
  pub code : List ℕ
  pub defs : List ℕ
  pub vars : List ℕ

abbrev pub lists : List ℕ → List ℕ → List ℕ → List ℕ → Lists
lists t c d v = record { types = t; code = c; defs = d; vars = v }

-- they hold what has been read, with zeros after it
pub record Holds (tw cw : ℕ) (l : Lists) (t : Tables) : Type 0 where
  pub types : l.types ≡ padded tw (table_words t.types)
  pub code : l.code ≡ padded cw (concat_map node_words t.code)
  pub defs : l.defs ≡ padded 64 t.defs
  pub vars : l.vars ≡ padded 48 (concat_map var_words t.vars)

-- there is a place for the record
pub record Space (i : Item) (here : Counts) (l : Lists) : Type 0 where
  pub types : i.form.section ≡ Section.Types → type_width * here.types + type_width ≤ length l.types
  pub defs : i.form.section ≡ Section.Definitions → here.defs < length l.defs
  pub vars : i.form.section ≡ Section.Variables → 3 * here.vars + 3 ≤ length l.vars
  pub code : i.form.section ≡ Section.Query → code_width * here.nodes + code_width ≤ length l.code

-- its words are those of what it gives: an entry, or a variable
pub record Worded (i : Item) : Type 0 where
  pub entry : i.form.section ≡ Section.Types → entry_words (entry_of i.kind i.a i.b) ≡ i.kind ∷ i.a ∷ i.b ∷ []
  pub var : i.form.section ≡ Section.Variables → var_words (i.a, var_of i.kind i.b) ≡ i.kind ∷ i.a ∷ i.b ∷ []

-- lists that held tables hold those with the record
abbrev pub Stores : Item → Counts → Lists → Lists → Type 0
Stores i here l m = (t : Tables) → Worded i → Counted here t → Holds (length l.types) (length l.code) l t → length l.defs ≡ 64 → length l.vars ≡ 48 → Holds (length l.types) (length l.code) m (with t i)

-- a type table that is clear and has room for entries 0 and 1
pub record Blank (t : List ℕ) : Type 0 where
  pub clear : t ≡ zeros (length t)
  pub room : 2 ≤ type_capacity (length t)

-- where reading starts: there is room, and the lists hold entries 0 and 1
pub record Begun (room limit : ℕ) (l : Lists) : Type 0 where
  pub least : 2 ≤ room
  pub few_types : room ≤ 4096
  pub few_nodes : limit ≤ 1024
  pub types_long : type_width * room ≤ length l.types
  pub code_long : code_width * limit ≤ length l.code
  pub defs_long : length l.defs ≡ 64
  pub vars_long : length l.vars ≡ 48
  pub holds : Holds (length l.types) (length l.code) l fresh

-- where it ends: at tables that are counted and held, or at a refusal, with the types and the query clear
pub record Finished (tw cw : ℕ) (l : Lists) (o : Out Tables) (c : Counts) : Type 0 where
  pub tables : Tables
  pub is : o ≡ ok tables
  pub counts : Counted c tables
  pub holds : Holds tw cw l tables

pub record Stopped (tw cw : ℕ) (l : Lists) (o : Out Tables) (r : Refusal) : Type 0 where
  pub is : o ≡ refused (number_of r.reason) r.place
  pub types : l.types ≡ zeros tw
  pub code : l.code ≡ zeros cw

abbrev pub Ends : ℕ → ℕ → Lists → Out Tables → Result Counts Refusal → Type 0
Ends tw cw l o (Ok c) = Finished tw cw l o c
Ends tw cw l o (Err r) = Stopped tw cw l o r
