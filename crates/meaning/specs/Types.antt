-- Type tables: the entries by their kinds, their words, and what a table has at a number.
-- Assumes nothing.
use Rattle.std.specs.Prelude.{ℕ, List, [], ◌∷◌, get_or}
use Rattle.std.proofs.Math.Option.{Option, none, some}
use Rattle.meaning.specs.Base.{find, otherwise, concat_map, padded, type_width}
use Rattle.meaning.specs.Kinds.{type·empty, type·string, type·element, type·pair, type·union, type·star, type·plus, type·opt, type·name}
use Rattle.meaning.specs.Forests.{Head, text, label}

-- "1 (); 2 String; 3 element (label, child); 4 pair (left, right); 5 union; 6 star (child); 7 plus; 8 opt; 9 name (definition)"
pub data Entry : Type 0 where
  empty string : Entry
  element pair union : ℕ → ℕ → Entry
  star plus opt name : ℕ → Entry

abbrev pub Table : Type 0
Table = List Entry

-- the entry that each definition stands for
abbrev pub Defs : Type 0
Defs = List ℕ

unfoldable pub kind_of : Entry → ℕ
kind_of empty = type·empty
kind_of string = type·string
kind_of (element l c) = type·element
kind_of (pair a b) = type·pair
kind_of (union a b) = type·union
kind_of (star a) = type·star
kind_of (plus a) = type·plus
kind_of (opt a) = type·opt
kind_of (name d) = type·name

unfoldable pub fields_of : Entry → List ℕ
fields_of empty = []
fields_of string = []
fields_of (element l c) = l ∷ c ∷ []
fields_of (pair a b) = a ∷ b ∷ []
fields_of (union a b) = a ∷ b ∷ []
fields_of (star a) = a ∷ []
fields_of (plus a) = a ∷ []
fields_of (opt a) = a ∷ []
fields_of (name d) = d ∷ []

-- "A type entry is three words (kind, a, b), unused words 0"
abbrev pub entry_words : Entry → List ℕ
entry_words x = padded type_width (kind_of x ∷ fields_of x)

abbrev pub table_words : Table → List ℕ
table_words t = concat_map entry_words t

-- the entry of a kind with these fields; of a number that is none of 2 to 9, ()
unfoldable pub entry_of : ℕ → ℕ → ℕ → Entry
entry_of k a b =
    otherwise empty
    (find k
    ((type·string, string)
    ∷ (type·element, element a b)
    ∷ (type·pair, pair a b)
    ∷ (type·union, union a b)
    ∷ (type·star, star a)
    ∷ (type·plus, plus a)
    ∷ (type·opt, opt a)
    ∷ (type·name, name a)
    ∷ []))

-- the entry with this number
abbrev pub at : Table → ℕ → Entry
at t e = get_or t e empty

-- "Entry 0 is always () and entry 1 String."
abbrev pub base : Table
base = empty ∷ string ∷ []

-- "atoms (String and element entries)": what the test word looks at
unfoldable pub head_of : Entry → Option Head
head_of empty = none
head_of string = some text
head_of (element l c) = some (label l)
head_of (pair a b) = none
head_of (union a b) = none
head_of (star a) = none
head_of (plus a) = none
head_of (opt a) = none
head_of (name d) = none

-- the definition that a name names
unfoldable pub name_of : Entry → Option ℕ
name_of empty = none
name_of string = none
name_of (element l c) = none
name_of (pair a b) = none
name_of (union a b) = none
name_of (star a) = none
name_of (plus a) = none
name_of (opt a) = none
name_of (name d) = some d
