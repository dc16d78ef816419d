-- Records: one grammar for jobs, answer files and values files; the tables that a file is read into; refusals 1 to 7, front to back.
-- Assumes nothing.
use Rattle.std.specs.Prelude.{ℕ, zero, suc, ◌+◌, ◌*◌, Bool, true, false, not, ◌&&◌, ◌||◌, List, [], ◌∷◌, ◌++◌, leb, ltb, eqb, length, get_or}
use Rattle.std.proofs.Math.Option.{Option, none, some}
use Rattle.meaning.specs.Base.{Out, ok, ◌>>=◌, require, given, find, is_some, word, Caps}
use Rattle.meaning.specs.Kinds
use Rattle.meaning.specs.Types.{Table, Defs, entry_of, base}

-- "Sections in this order": types, definitions, variables, query; in an answer file types, definitions, record 80
pub data Section : Type 0 where
  types definitions variables query result value : Section

abbrev pub order : Section → ℕ
order types = 0
order definitions = 1
order variables = 2
order query = 3
order result = 4
order value = 5

-- what a field is: a label, a type entry, a definition, a variable, a text, test word or number, a query node that is no condition, a condition
pub data Sort : Type 0 where
  label entry_no def_no var_no any_word query_no cond_no : Sort

pub record Form : Type 0 where
  pub section : Section
  pub sorts : List Sort

abbrev pub form : Section → List Sort → Form
form s fs = record { section = s; sorts = fs }

-- THE GRAMMAR: "kind, fields" of every record
unfoldable pub forms : List (ℕ × Form)
forms =
    (Kinds.type·element, form types (label ∷ entry_no ∷ []))
    ∷ (Kinds.type·pair, form types (entry_no ∷ entry_no ∷ []))
    ∷ (Kinds.type·union, form types (entry_no ∷ entry_no ∷ []))
    ∷ (Kinds.type·star, form types (entry_no ∷ []))
    ∷ (Kinds.type·plus, form types (entry_no ∷ []))
    ∷ (Kinds.type·opt, form types (entry_no ∷ []))
    ∷ (Kinds.type·name, form types (def_no ∷ []))
    ∷ (Kinds.record·definition, form definitions (entry_no ∷ []))
    ∷ (Kinds.record·tree, form variables (var_no ∷ entry_no ∷ []))
    ∷ (Kinds.record·forest, form variables (var_no ∷ entry_no ∷ []))
    ∷ (Kinds.query·empty, form query [])
    ∷ (Kinds.query·text, form query (any_word ∷ []))
    ∷ (Kinds.query·element, form query (label ∷ query_no ∷ []))
    ∷ (Kinds.query·pair, form query (query_no ∷ query_no ∷ []))
    ∷ (Kinds.query·variable, form query (var_no ∷ []))
    ∷ (Kinds.query·child, form query (var_no ∷ any_word ∷ []))
    ∷ (Kinds.query·dos, form query (var_no ∷ any_word ∷ []))
    ∷ (Kinds.query·for, form query (var_no ∷ query_no ∷ query_no ∷ []))
    ∷ (Kinds.query·let, form query (var_no ∷ query_no ∷ query_no ∷ []))
    ∷ (Kinds.query·when, form query (cond_no ∷ query_no ∷ []))
    ∷ (Kinds.condition·true, form query [])
    ∷ (Kinds.condition·false, form query [])
    ∷ (Kinds.condition·equal, form query (var_no ∷ var_no ∷ []))
    ∷ (Kinds.condition·empty, form query (var_no ∷ []))
    ∷ (Kinds.condition·or, form query (cond_no ∷ cond_no ∷ []))
    ∷ (Kinds.condition·not, form query (cond_no ∷ []))
    ∷ (Kinds.record·result, form result (entry_no ∷ []))
    ∷ (Kinds.forest·text, form value (any_word ∷ []))
    ∷ (Kinds.forest·label, form value (label ∷ any_word ∷ []))
    ∷ (Kinds.value·variable, form value (var_no ∷ any_word ∷ []))
    ∷ []

pub data File : Type 0 where
  job answer values : File

-- the sections that a file has
abbrev pub has_section : File → Section → Bool
has_section job s = leb (order s) (order query)
has_section answer s = leb (order s) (order definitions) || eqb (order s) (order result)
has_section values s = eqb (order s) (order value)

-- the form of a kind in a file: none if the kind is unknown there
abbrev pub own_form : File → Option Form → Option Form
own_form file none = none
own_form file (some f) = elim (has_section file f.section) [ true ↦ some f | false ↦ none ]

abbrev pub form_in : File → ℕ → Option Form
form_in file kind = own_form file (find kind forms)

-- ONE RECORD, whole, of a known kind and of the right length
pub record Record : Type 0 where
  pub kind : ℕ
  pub form : Form
  pub fields : List ℕ
  pub next : ℕ

-- its field with this number; one that it does not have is 0
abbrev pub field : Record → ℕ → ℕ
field r i = get_or r.fields i 0

-- the words of a record's fields, from a byte offset on
unfoldable pub fields_at : List ℕ → ℕ → List Sort → List ℕ
fields_at s at [] = []
fields_at s at (x ∷ xs) = word s at ∷ fields_at s (at + 2) xs

-- "length of the whole record in bytes, kind, fields. Length is 4 + 2 per field."
abbrev pub length_of : Form → ℕ
length_of f = 4 + 2 * length f.sorts

-- "the order is 1 (under 4 bytes left), 2, 3, 1 (runs past the end)"
unfoldable pub record_at : File → List ℕ → ℕ → Out Record
record_at file s at = do
  _ ← require (leb (at + 4) (length s)) 1 at
  f ← given (form_in file (word s (at + 2))) 2 at
  _ ← require (eqb (word s at) (length_of f)) 3 at
  _ ← require (leb (at + length_of f) (length s)) 1 at
  ok (record { kind = word s (at + 2); form = f; fields = fields_at s (at + 4) f.sorts; next = at + length_of f })

-- THE TABLES. A declared or bound variable: a tree variable or a forest variable, of a type entry
pub data Var : Type 0 where
  tree forest : ℕ → Var

abbrev pub type_in : Var → ℕ
type_in (tree e) = e
type_in (forest e) = e

abbrev pub var_of : ℕ → ℕ → Var
var_of kind e = elim (eqb kind Kinds.record·tree) [ true ↦ tree e | false ↦ forest e ]

-- "A query entry is four words (kind, then up to three fields)"
pub record Node : Type 0 where
  pub kind : ℕ
  pub a : ℕ
  pub b : ℕ
  pub c : ℕ

abbrev pub node : ℕ → ℕ → ℕ → ℕ → Node
node k x y z = record { kind = k; a = x; b = y; c = z }

abbrev pub node_at : List Node → ℕ → Node
node_at code n = get_or code n (node 0 0 0 0)

abbrev pub node_words : Node → List ℕ
node_words x = x.kind ∷ x.a ∷ x.b ∷ x.c ∷ []

-- what has been read so far: also where reading goes on
pub record Tables : Type 0 where
  pub types : Table
  pub defs : Defs
  pub vars : List (ℕ × Var)
  pub code : List Node
  pub result : Option ℕ
  pub section : Section

abbrev pub fresh : Tables
fresh = record { types = base; defs = []; vars = []; code = []; result = none; section = types }

-- REFUSAL 4. "section out of order"; nothing comes after record 80
abbrev pub in_order : Tables → Section → Bool
in_order t s = leb (order t.section) (order s) && not (is_some t.result)

-- REFUSAL 5. "over a capacity or number above": is there room for one more
abbrev pub has_room : Caps → Tables → Section → Bool
has_room caps t types = ltb (length t.types) caps.types
has_room caps t definitions = ltb (length t.defs) 64
has_room caps t variables = ltb (length t.vars) 16
has_room caps t query = ltb (length t.code) caps.code
has_room caps t result = true
has_room caps t value = true

-- REFUSAL 6, a test of the fields and of what stands before them alone: the number of type entries, and the query nodes
abbrev pub is_condition : ℕ → Bool
is_condition kind = leb Kinds.condition·true kind && leb kind Kinds.condition·not

abbrev pub fits : ℕ → List Node → Sort → ℕ → Bool
fits n code label w = leb 1 w && leb w 65534
fits n code entry_no w = ltb w n
fits n code def_no w = leb w 63
fits n code var_no w = leb w 63
fits n code any_word w = true
fits n code query_no w = ltb w (length code) && not (is_condition (node_at code w).kind)
fits n code cond_no w = ltb w (length code) && is_condition (node_at code w).kind

unfoldable pub all_fit : ℕ → List Node → List Sort → List ℕ → Bool
all_fit n code [] ws = true
all_fit n code (s ∷ ss) [] = true
all_fit n code (s ∷ ss) (w ∷ ws) = fits n code s w && all_fit n code ss ws

-- REFUSAL 7. "variable declared twice"
abbrev pub declared_again : Tables → Section → ℕ → Bool
declared_again t s v = eqb (order s) (order variables) && is_some (find v t.vars)

-- the tables with the record: its kind and its fields, those it does not have 0
unfoldable pub put : Section → ℕ → ℕ → ℕ → ℕ → Tables → Tables
put types k x y z t = record { types = t.types ++ (entry_of k x y ∷ []); defs = t.defs; vars = t.vars; code = t.code; result = t.result; section = types }
put definitions k x y z t = record { types = t.types; defs = t.defs ++ (x ∷ []); vars = t.vars; code = t.code; result = t.result; section = definitions }
put variables k x y z t = record { types = t.types; defs = t.defs; vars = t.vars ++ ((x, var_of k y) ∷ []); code = t.code; result = t.result; section = variables }
put query k x y z t = record { types = t.types; defs = t.defs; vars = t.vars; code = t.code ++ (node k x y z ∷ []); result = t.result; section = query }
put result k x y z t = record { types = t.types; defs = t.defs; vars = t.vars; code = t.code; result = some x; section = result }
put value k x y z t = t

-- "Records from the front; in one record the order is 1 .., 2, 3, 1 .., 4, 5, 6, 7": the tables with the record at an offset, and the offset behind it
unfoldable pub read_record : File → Caps → List ℕ → ℕ → Tables → Out (Tables × ℕ)
read_record file caps s at t = do
  r ← record_at file s at
  let section = r.form.section
  _ ← require (in_order t section) 4 at
  _ ← require (has_room caps t section) 5 at
  _ ← require (all_fit (length t.types) t.code r.form.sorts r.fields) 6 at
  _ ← require (not (declared_again t section (field r 0))) 7 at
  ok (put section r.kind (field r 0) (field r 1) (field r 2) t, r.next)

-- the records from an offset to the end, onto what has been read; each has 4 bytes or more, so there are no more of them than bytes
unfoldable pub read_from : ℕ → File → Caps → List ℕ → ℕ → Tables → Out Tables
read_from zero file caps s at t = ok t
read_from (suc k) file caps s at t =
    elim (ltb at (length s)) [
      | true ↦ (do
        r ← read_record file caps s at t
        read_from k file caps s r.1 r.0)
      | false ↦ ok t
    ]

-- "type capacity under 2 gives this before all else, place 0"
unfoldable pub read_records : File → Caps → List ℕ → Out Tables
read_records file caps s = do
  _ ← require (leb 2 caps.types) 5 0
  read_from (length s) file caps s 0 fresh
