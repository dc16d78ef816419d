-- The worked jobs of document 01 that are marked P, as one table of rows: what the definitions give, and what the paper says.
-- Assumes nothing.
use Rattle.std.specs.Prelude.{ℕ, Bool, true, false, ◌&&◌, List, [], ◌∷◌, ◌++◌, eqb, length, take}
use Rattle.meaning.specs.Base.{Out, ok, refused, ◌>>=◌, concat_map}
use Rattle.meaning.specs.Forests.{same_words}
use Rattle.meaning.specs.Types.{Entry, element, pair, union, star, plus, opt, name, Table, base, table_words}
use Rattle.meaning.specs.Shapes.{Class, one, maybe, more, any, shape, quant}
use Rattle.meaning.specs.Typing.{type_job}
use Rattle.meaning.specs.Answers.{record_of, full, answer_job}

-- what a row shows: numbers, or a refusal
abbrev pub Shown : Type 0
Shown = Out (List ℕ)

pub record Row : Type 0 where
  pub got : Shown
  pub said : Shown

abbrev pub row : Shown → Shown → Row
row g s = record { got = g; said = s }

-- a class
abbrev pub show_class : Class → Shown
show_class one = ok (1 ∷ [])
show_class maybe = ok (2 ∷ [])
show_class more = ok (3 ∷ [])
show_class any = ok (4 ∷ [])

-- a result entry, the count of entries, and the table
abbrev pub show_table : ℕ → Table → Shown
show_table e t = ok (e ∷ length t ∷ table_words t)

abbrev pub typed : List ℕ → Shown
typed s = type_job full s >>= λ r. show_table r.result r.left.types

-- a result entry, the count of entries, and the answer's bytes
abbrev pub answered : List ℕ → Shown
answered s = answer_job full 6 s >>= λ r. ok (r.typed.result ∷ length r.typed.left.types ∷ r.file)

-- the bytes of records, each its kind and then its fields
abbrev pub bytes : List ℕ → List ℕ
bytes [] = []
bytes (k ∷ ws) = record_of k ws

abbrev pub job_of : List (List ℕ) → List ℕ
job_of rs = concat_map bytes rs

-- the base, 2[()] and 3[()] as a and b, and entry 4
abbrev pub with_ab : Entry → Table
with_ab x = base ++ (element 2 0 ∷ element 3 0 ∷ x ∷ [])

-- P5 to P7: "dos .. on a tree variable of type 2[3[()]] (entries 2: 3[()], 3: 2[entry 2])"
abbrev pub dos_job : ℕ → List ℕ
dos_job w = job_of ((3 ∷ 3 ∷ 0 ∷ []) ∷ (3 ∷ 2 ∷ 2 ∷ []) ∷ (17 ∷ 0 ∷ 3 ∷ []) ∷ (38 ∷ 0 ∷ w ∷ []) ∷ [])

abbrev pub dos_types : Table
dos_types = base ++ (element 3 0 ∷ element 2 2 ∷ [])

-- P8 and P9: entry 2 is name 0, entry 3 the record given and definition 0, and the query is 32
abbrev pub def_job : List ℕ → List ℕ
def_job r = job_of ((9 ∷ 0 ∷ []) ∷ r ∷ (16 ∷ 3 ∷ []) ∷ (32 ∷ []) ∷ [])

abbrev pub P10 : List ℕ
P10 = 0x08 ∷ 0x00 ∷ 0x12 ∷ 0x00 ∷ 0x00 ∷ 0x00 ∷ 0x01 ∷ 0x00 ∷ 0x06 ∷ 0x00 ∷ 0x24 ∷ 0x00 ∷ 0x00 ∷ 0x00 ∷ []

unfoldable pub rows : List Row
rows =
    -- P1 "quant of a,b is +"
    row (show_class (quant (shape [] (with_ab (pair 2 3)) 4))) (show_class more)
    -- P2 "of ()|a is ?"
    ∷ row (show_class (quant (shape [] (with_ab (union 0 2)) 4))) (show_class maybe)
    -- P3 "of (),a is +"
    ∷ row (show_class (quant (shape [] (with_ab (pair 0 2)) 4))) (show_class more)
    -- P4 "of (a+)? is *"
    ∷ row (show_class (quant (shape [] (base ++ (element 2 0 ∷ plus 2 ∷ opt 3 ∷ [])) 4))) (show_class any)
    -- P5 "test 0 ..: 4 is union 2 3, 5 is star 4"
    ∷ row (typed (dos_job 0)) (show_table 5 (dos_types ++ (union 2 3 ∷ star 4 ∷ [])))
    -- P6 "test 9: result 0"
    ∷ row (typed (dos_job 9)) (show_table 0 dos_types)
    -- P7 "test 3: 4 is star 2"
    ∷ row (typed (dos_job 3)) (show_table 4 (dos_types ++ (star 2 ∷ [])))
    -- P8 "definition 0 = opt of name 0: refusal 10 at 0"
    ∷ row (typed (def_job (8 ∷ 2 ∷ []))) (refused 10 0)
    -- P9 "definition 0 = element around name 0: accepted"
    ∷ row (typed (def_job (3 ∷ 7 ∷ 2 ∷ []))) (show_table 0 (base ++ (name 0 ∷ element 7 2 ∷ [])))
    -- P10 "result 1, two entries; answer 06 00 50 00 01 00"
    ∷ row (answered P10) (ok (1 ∷ 2 ∷ 0x06 ∷ 0x00 ∷ 0x50 ∷ 0x00 ∷ 0x01 ∷ 0x00 ∷ []))
    -- P11 "its first 13 bytes: refusal 1 at 8"
    ∷ row (typed (take 13 P10)) (refused 1 8)
    -- P12 "no bytes: refusal 8 at 0"
    ∷ row (typed []) (refused 8 0)
    ∷ []

-- does a row give what the paper says
abbrev pub agrees : Shown → Shown → Bool
agrees (ok xs) (ok ys) = same_words xs ys
agrees (ok xs) (refused n p) = false
agrees (refused m q) (ok ys) = false
agrees (refused m q) (refused n p) = eqb m n && eqb q p

unfoldable pub all_agree : List Row → Bool
all_agree [] = true
all_agree (r ∷ rs) = agrees r.got r.said && all_agree rs
