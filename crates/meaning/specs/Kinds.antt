-- The numbers of the kinds, as document 01 gives them ("Tables", "Job records"). They stand here alone; every other page uses their names.
-- Assumes nothing.
use Rattle.std.specs.Prelude.{ℕ}

-- types: 1 (); 2 String; 3 element; 4 pair; 5 union; 6 star; 7 plus; 8 opt; 9 name
abbrev pub type·empty : ℕ
type·empty = 1

abbrev pub type·string : ℕ
type·string = 2

abbrev pub type·element : ℕ
type·element = 3

abbrev pub type·pair : ℕ
type·pair = 4

abbrev pub type·union : ℕ
type·union = 5

abbrev pub type·star : ℕ
type·star = 6

abbrev pub type·plus : ℕ
type·plus = 7

abbrev pub type·opt : ℕ
type·opt = 8

abbrev pub type·name : ℕ
type·name = 9

-- 16 definition; 17 tree variable, 18 forest variable; record 80 (result entry)
abbrev pub record·definition : ℕ
record·definition = 16

abbrev pub record·tree : ℕ
record·tree = 17

abbrev pub record·forest : ℕ
record·forest = 18

abbrev pub record·result : ℕ
record·result = 80

-- query: 32 (); 33 text; 34 element; 35 pair; 36 variable; 37 child; 38 descendant-or-self, "dos"; 39 for; 40 let; 41 when
abbrev pub query·empty : ℕ
query·empty = 32

abbrev pub query·text : ℕ
query·text = 33

abbrev pub query·element : ℕ
query·element = 34

abbrev pub query·pair : ℕ
query·pair = 35

abbrev pub query·variable : ℕ
query·variable = 36

abbrev pub query·child : ℕ
query·child = 37

abbrev pub query·dos : ℕ
query·dos = 38

abbrev pub query·for : ℕ
query·for = 39

abbrev pub query·let : ℕ
query·let = 40

abbrev pub query·when : ℕ
query·when = 41

-- conditions 48 true; 49 false; 50 equal; 51 empty; 52 or; 53 not
abbrev pub condition·true : ℕ
condition·true = 48

abbrev pub condition·false : ℕ
condition·false = 49

abbrev pub condition·equal : ℕ
condition·equal = 50

abbrev pub condition·empty : ℕ
condition·empty = 51

abbrev pub condition·or : ℕ
condition·or = 52

abbrev pub condition·not : ℕ
condition·not = 53

-- forest entries and values files: 64 (text); 65 (label, records inside); 66 (v, n)
abbrev pub forest·text : ℕ
forest·text = 64

abbrev pub forest·label : ℕ
forest·label = 65

abbrev pub value·variable : ℕ
value·variable = 66
