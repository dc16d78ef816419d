-- What the counts say of the tables that have been read, and what one record does.
-- Assumes nothing.
use Rattle.std.specs.Prelude.{◌≡◌, List, ℕ, ◌+◌, ◌*◌, ◌≤◌, length, Result, Ok, Err}
use Rattle.std.specs.Prelude as Std
use Rattle.meaning.specs.Base.{Out, ok, refused}
use Rattle.meaning.specs.Records as Records
use Rattle.meaning.specs.Records.{Var, Node, record_at, Tables, put, read_record}
use Rattle.refusals.specs.declared.Reason.{Reason}
use Rattle.refusals.specs.Says.{number_of}
use Rattle.records.specs.declared.Section.{Section}
use Rattle.records.specs.declared.Item.{Item}
use Rattle.records.specs.Says.{section_of, item_of, Filled}
use Rattle.reading.specs.declared.Counts.{Counts}
use Rattle.reading.specs.declared.Step.{Step}
use Rattle.reading.specs.Says.{caps, maybe}

-- the counts of tables that have been read
pub record Counted (here : Counts) (t : Tables) : Type 0 where
  pub types : here.types ≡ length t.types
  pub defs : here.defs ≡ length t.defs
  pub vars : here.vars ≡ length t.vars
  pub nodes : here.nodes ≡ length t.code
  pub section : section_of here.section ≡ t.section
  pub result : here.result ≡ maybe t.result

-- the tables that the counts, the variables and the query nodes show
pub record Shown (here : Counts) (vs : List (ℕ × Var)) (cs : List Node) (t : Tables) : Type 0 where
  pub counts : Counted here t
  pub vars : vs ≡ t.vars
  pub code : cs ≡ t.code

-- no more of each than there can be
pub record Few (here : Counts) : Type 0 where
  pub types : here.types ≤ 4096
  pub defs : here.defs ≤ 64
  pub vars : here.vars ≤ 16
  pub nodes : here.nodes ≤ 1024

-- the next record's place is in the file
pub record Placed (s : List ℕ) (here : Counts) : Type 0 where
  pub within : here.at ≤ length s
  pub few : Few here

-- the counts with a record more
abbrev pub counted_as : Section → Counts → Item → Counts
counted_as Section.Types c i = record { at = i.next; types = c.types + 1; defs = c.defs; vars = c.vars; nodes = c.nodes; section = i.form.section; result = c.result }
counted_as Section.Definitions c i = record { at = i.next; types = c.types; defs = c.defs + 1; vars = c.vars; nodes = c.nodes; section = i.form.section; result = c.result }
counted_as Section.Variables c i = record { at = i.next; types = c.types; defs = c.defs; vars = c.vars + 1; nodes = c.nodes; section = i.form.section; result = c.result }
counted_as Section.Query c i = record { at = i.next; types = c.types; defs = c.defs; vars = c.vars; nodes = c.nodes + 1; section = i.form.section; result = c.result }
counted_as Section.Result c i = record { at = i.next; types = c.types; defs = c.defs; vars = c.vars; nodes = c.nodes; section = i.form.section; result = Std.Some i.a }
counted_as Section.Values c i = record { at = i.next; types = c.types; defs = c.defs; vars = c.vars; nodes = c.nodes; section = i.form.section; result = c.result }

abbrev pub counted : Counts → Item → Counts
counted c i = counted_as i.form.section c i

-- the tables with a record more
abbrev pub with : Tables → Item → Tables
with t i = put (section_of i.form.section) i.kind i.a i.b i.c t

-- WHAT A RECORD SAYS: the tables with it and the place behind it, or a refusal at its place
abbrev pub taken : Tables → Item → ℕ → Result Counts Reason → Out (Tables × ℕ)
taken t i at (Ok next) = ok (with t i, i.next)
taken t i at (Err r) = refused (number_of r) at

-- where it is stored, the counts go on by it
abbrev pub Storing : Item → Counts → Result Counts Reason → Type 0
Storing i here (Ok next) = next ≡ counted here i
Storing i here (Err r) = Unit {0}

-- what a whole record does to whatever tables are shown: 4 to 7
pub record Admits (room limit : ℕ) (i : Item) (here : Counts) (vars : List (ℕ × Var)) (code : List Node) (r : Result Counts Reason) : Type 0 where
  pub steps : (file : Records.File) (s : List ℕ) (t : Tables) → ok (item_of i) ≡ record_at file s here.at → Filled i → Shown here vars code t → read_record file (caps room limit) s here.at t ≡ taken t i here.at r
  pub stores : Storing i here r

-- WHAT A STEP SAYS: the same for the record that it stores
abbrev pub stepped : Tables → ℕ → Result Step Reason → Out (Tables × ℕ)
stepped t at (Ok x) = ok (with t x.item, x.item.next)
stepped t at (Err r) = refused (number_of r) at

-- a record that is stored stands there, and the counts go on by it
pub record Next (file : Records.File) (s : List ℕ) (here : Counts) (i : Item) (next : Counts) : Type 0 where
  pub item : ok (item_of i) ≡ record_at file s here.at
  pub filled : Filled i
  pub counts : next ≡ counted here i

abbrev pub Goes : Records.File → List ℕ → Counts → Result Step Reason → Type 0
Goes file s here (Ok x) = Next file s here x.item x.next
Goes file s here (Err r) = Unit {0}

-- what the next record does to whatever tables are shown: 1 to 7
pub record Advances (file : Records.File) (s : List ℕ) (room limit : ℕ) (here : Counts) (vars : List (ℕ × Var)) (code : List Node) (r : Result Step Reason) : Type 0 where
  pub steps : (t : Tables) → Shown here vars code t → read_record file (caps room limit) s here.at t ≡ stepped t here.at r
  pub goes : Goes file s here r
