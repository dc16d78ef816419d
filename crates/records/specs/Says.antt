-- What the code's sorts, files, forms and records say in document 01's terms.
-- Assumes nothing.
use Rattle.std.specs.Prelude.{◌≡◌, List, [], ◌∷◌, ℕ, ◌+◌, ◌-◌, ◌/◌, ◌≤◌, ◌<◌, length, take, Result, Ok, Err}
use Rattle.std.specs.Prelude as Std
use Rattle.std.proofs.Math.Option.{Option, none, some}
use Rattle.meaning.specs.Base.{Out, ok, refused, find, word}
use Rattle.meaning.specs.Records as Records
use Rattle.meaning.specs.Records.{types, definitions, variables, query, result, value, form, forms, form_in, length_of, Record, field, record_at}
use Rattle.refusals.specs.declared.Reason.{Reason}
use Rattle.refusals.specs.Says.{number_of}
use Rattle.records.specs.declared.Sort.{Sort}
use Rattle.records.specs.declared.File.{File}
use Rattle.records.specs.declared.Section.{Section}
use Rattle.records.specs.declared.Form.{Form}
use Rattle.records.specs.declared.Item.{Item}

abbrev pub sort_of : Sort → Records.Sort
sort_of Sort.Label = Records.label
sort_of Sort.EntryNo = Records.entry_no
sort_of Sort.DefNo = Records.def_no
sort_of Sort.VarNo = Records.var_no
sort_of Sort.AnyWord = Records.any_word
sort_of Sort.QueryNo = Records.query_no
sort_of Sort.CondNo = Records.cond_no

abbrev pub file_of : File → Records.File
file_of File.Job = Records.job
file_of File.Answer = Records.answer

abbrev pub section_of : Section → Records.Section
section_of Section.Types = types
section_of Section.Definitions = definitions
section_of Section.Variables = variables
section_of Section.Query = query
section_of Section.Result = result
section_of Section.Values = value

-- "Length is 4 + 2 per field": how many fields a record of this form has
abbrev pub fields_in : Form → ℕ
fields_in f = (f.length - 4) / 2

-- the sorts of those fields
unfoldable pub sorts_of : Form → List Records.Sort
sorts_of f = take (fields_in f) (sort_of f.a ∷ sort_of f.b ∷ sort_of f.c ∷ [])

abbrev pub form_of : Form → Records.Form
form_of f = form (section_of f.section) (sorts_of f)

-- a form is of this section and has fields of these sorts
pub record Has (section : Records.Section) (sorts : List Records.Sort) (f : Form) : Type 0 where
  pub is : form_of f ≡ form section sorts
  pub sized : f.length ≡ length_of (form_of f)

-- the form of a kind, none if the kind is unknown
abbrev pub formed : Std.Option Form → Option Records.Form
formed Std.None = none
formed (Std.Some f) = some (form_of f)

-- the length of a form is that of its records
abbrev pub Sized : Std.Option Form → Type 0
Sized Std.None = Unit {0}
Sized (Std.Some f) = f.length ≡ length_of (form_of f)

-- what is known of a kind is what the grammar says
pub record Formed (kind : ℕ) (k : Std.Option Form) : Type 0 where
  pub is : formed k ≡ find kind forms
  pub sized : Sized k

-- what is known of a kind is its form in a file
pub record Owned (file : Records.File) (kind : ℕ) (k : Std.Option Form) : Type 0 where
  pub is : formed k ≡ form_in file kind
  pub sized : Sized k

-- A WHOLE RECORD
unfoldable pub fields_of : Item → List ℕ
fields_of i = take (fields_in i.form) (i.a ∷ i.b ∷ i.c ∷ [])

abbrev pub item_of : Item → Record
item_of i = record { kind = i.kind; form = form_of i.form; fields = fields_of i; next = i.next }

-- its words are its fields, those that it does not have 0
pub record Filled (i : Item) : Type 0 where
  pub a : i.a ≡ field (item_of i) 0
  pub b : i.b ≡ field (item_of i) 1
  pub c : i.c ≡ field (item_of i) 2

-- the word at a place of a record that ends at `end`, 0 where the record has no field there
pub record FieldAt (s : List ℕ) (at end w : ℕ) : Type 0 where
  pub inside : at + 2 ≤ end → w ≡ word s at
  pub outside : end < at + 2 → w ≡ 0

-- the kind at a place, or refusal 1 where fewer than four bytes are left
abbrev pub KindAt : List ℕ → ℕ → Result ℕ Reason → Type 0
KindAt s at (Ok k) = (at + 4 ≤ length s) × (k ≡ word s (at + 2))
KindAt s at (Err r) = (length s < at + 4) × (r ≡ Reason.Cut)

-- WHAT STANDS AT A PLACE: a record, or a refusal there
abbrev pub rec_of : ℕ → Result Item Reason → Out Record
rec_of at (Ok i) = ok (item_of i)
rec_of at (Err r) = refused (number_of r) at

abbrev pub Complete : Result Item Reason → Type 0
Complete (Ok i) = Filled i
Complete (Err r) = Unit {0}

pub record Stands (file : Records.File) (s : List ℕ) (at : ℕ) (r : Result Item Reason) : Type 0 where
  pub is : rec_of at r ≡ record_at file s at
  pub complete : Complete r

-- it stands there in every file where this is the form of the kind that is there
pub record Makes (s : List ℕ) (at kind : ℕ) (f : Form) (r : Result Item Reason) : Type 0 where
  pub stands : (file : Records.File) → kind ≡ word s (at + 2) → Owned file kind (Std.Some f) → Stands file s at r
