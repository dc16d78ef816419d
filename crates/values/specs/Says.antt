-- What loading values answers and leaves, in the terms of `meaning`.
-- Assumes nothing.
use Rattle.std.specs.Prelude.{◌≡◌, Bool, true, false, ◌&&◌, ◌||◌, List, [], ◌∷◌, ◌++◌, ℕ, ◌+◌, ◌*◌, ◌≤◌, ◌<◌, leb, eqb, length, get_or, take}
use Rattle.std.specs.Prelude as Std
use Rattle.std.proofs.Math.Option.{Option, none, some}
use Rattle.meaning.specs.Base.{Out, ok, refused, ◌>>=◌, require, refuse_at, zeros, padded, lent, forest_width}
use Rattle.meaning.specs.Kinds.{forest·text, forest·label, value·variable}
use Rattle.meaning.specs.Forests.{size, trees, forest_words}
use Rattle.meaning.specs.Records.{Record, field, Var, var_of}
use Rattle.meaning.specs.Values.{value_at, Part, Value, read_values, is_odd, odd, entry_places, load_values, joined}
use Rattle.refusals.specs.declared.Reason.{Reason}
use Rattle.refusals.specs.declared.Refusal.{Refusal}
use Rattle.refusals.specs.Says.{number_of, told}
use Rattle.words.specs.Says.{found}
use Rattle.values.specs.declared.Line.{Line}
use Rattle.values.specs.declared.Kept.{Kept}
use Rattle.values.specs.declared.Valued.{Valued}
use Rattle.values.specs.declared.Scan.{Scan}
use Rattle.values.specs.declared.Loaded.{Loaded}

-- the entry behind each value's forest, the first value behind n entries
unfoldable pub ends_from : ℕ → List Value → List ℕ
ends_from n [] = []
ends_from n (v ∷ vs) = (n + size v.part.forest) ∷ ends_from (n + size v.part.forest) vs

abbrev pub ends_of : List Value → List ℕ
ends_of vs = ends_from 0 vs

-- how many entries there are, and the ends, with zeros after them
unfoldable pub loaded_of : List Value → Loaded
loaded_of vs = record { entries = size (joined vs); ends = padded 16 (ends_of vs) }

-- WHAT LOADING LEAVES: its answer, and the lent work table of so many words
pub record Left (tw : ℕ) (r : Std.Result Loaded Refusal) (w : List ℕ) (o : Out (List Value)) : Type 0 where
  pub answer : told r ≡ (o >>= λ vs. ok (loaded_of vs))
  pub work : w ≡ lent tw (λ vs. forest_words (joined vs)) o

-- A RECORD THAT IS DUE. What the code keeps of it, and how it answers
pub record Shows (x : Line) (r : Record) : Type 0 where
  pub kind : x.kind ≡ r.kind
  pub a : x.a ≡ field r 0
  pub b : x.b ≡ field r 1
  pub next : x.next ≡ r.next

pub data Stands (o : Out Record) : Std.Result Line Refusal → Type 0 where
  wrong : {e : Refusal} → o ≡ refused (number_of e.reason) e.place → Stands o (Std.Err e)
  there : {x : Line} (r : Record) → o ≡ ok r → Shows x r → Stands o (Std.Ok x)

-- 18 at a place
abbrev pub wrong_at : ℕ → Refusal
wrong_at place = record { reason = Reason.WrongValues; place = place }

-- an entry of a forest, 64 or 65, with at most n records inside; a text has none
abbrev pub is_entry : ℕ → Bool
is_entry kind = eqb kind forest·text || eqb kind forest·label

unfoldable pub entry_at : List ℕ → ℕ → ℕ → Out Record
entry_at s at n = do
  r ← value_at s at
  _ ← require (is_entry r.kind && leb (field r 1) n) 18 at
  ok r

-- the record 66 of the variable v
unfoldable pub head_at : ℕ → List ℕ → ℕ → Out Record
head_at v s at = do
  r ← value_at s at
  _ ← require (eqb r.kind value·variable && eqb (field r 0) v) 18 at
  ok r

-- ENTRIES KEPT, where there is room
abbrev pub words_of : Line → List ℕ
words_of x = x.kind ∷ x.a ∷ x.b ∷ []

-- the first of these places for which there is no room
unfoldable pub overfull : ℕ → List ℕ → Option ℕ
overfull room ps = elim (leb (length ps) room) [ true ↦ none | false ↦ some (get_or ps room 0) ]

-- in the front of a work table of tw words stand the entries of these words, whose records stand at these places, as many as there is room for
pub record Keeping (tw : ℕ) (ws ps w : List ℕ) (k : Kept) : Type 0 where
  pub even : length ws ≡ forest_width * length ps
  pub count : k.entries ≡ length ps
  pub long : length w ≡ tw
  pub front : length ps ≤ k.room → take (length ws) w ≡ ws
  pub over : found k.full ≡ overfull k.room ps

-- behind them come those of these words and places
pub record Adds (tw : ℕ) (w : List ℕ) (k : Kept) (u : List ℕ) (l : Kept) (xs qs : List ℕ) : Type 0 where
  pub room : l.room ≡ k.room
  pub more : l.entries ≡ k.entries + length qs
  pub adds : (ws ps : List ℕ) → Keeping tw ws ps w k → Keeping tw (ws ++ xs) (ps ++ qs) u l

-- a stack of m words is deep enough for the open stretches of any forest in the bytes s: a variable has fewer than 65,536 records, and each has 4 bytes or
-- more
pub data Deep (s : List ℕ) (m : ℕ) : Type 0 where
  whole : 65536 ≤ m → Deep s m
  short : length s + 4 < 4 * m → Deep s m

-- A FOREST AND A VALUE that were read
pub data Reads (tw : ℕ) (w : List ℕ) (k : Kept) (u : List ℕ) (l : Kept) (o : Out Part) : Std.Result ℕ Refusal → Type 0 where
  wrong : {e : Refusal} → o ≡ refused (number_of e.reason) e.place → Reads tw w k u l o (Std.Err e)
  reached : {next : ℕ} (p : Part) → o ≡ ok p → next ≡ p.next → Adds tw w k u l (forest_words p.forest) p.places → Reads tw w k u l o (Std.Ok next)

-- whether it is one tree, and whether a variable of that kind should have had one
pub record Single (o : Out Part) (r : Bool) : Type 0 where
  pub is : (p : Part) → o ≡ ok p → r ≡ eqb (trees p.forest) 1

pub record Odd (kind : ℕ) (o : Out Part) (r : Bool) : Type 0 where
  pub is : (e : ℕ) (p : Part) → o ≡ ok p → r ≡ is_odd (var_of kind e) p.forest

pub data Gives (kind tw : ℕ) (w : List ℕ) (k : Kept) (u : List ℕ) (l : Kept) (o : Out Part) : Std.Result Valued Refusal → Type 0 where
  wrong : {e : Refusal} → o ≡ refused (number_of e.reason) e.place → Gives kind tw w k u l o (Std.Err e)
  read : {x : Valued} (p : Part) → o ≡ ok p → length p.places ≤ 65535 → x.next ≡ p.next → Odd kind o x.odd
      → Adds tw w k u l (forest_words p.forest) p.places → Gives kind tw w k u l o (Std.Ok x)

-- ALL VALUES. What is asked before the first: at most sixteen variables, a stack that is deep enough, ends of full length, a work table that is long enough
pub record Blank (s : List ℕ) (V : List (ℕ × Var)) (stack ends work : List ℕ) (room : ℕ) : Type 0 where
  pub few : length V ≤ 16
  pub deep : Deep s (length stack)
  pub sixteen : ends ≡ zeros 16
  pub long : forest_width * room ≤ length work
  pub most : room ≤ 8192

-- what is found, where reading them all answers o: 18; or the place of 19, the entries kept, with room for so many, and the ends
pub data Scans (room tw : ℕ) (o : Out (List Value)) (ends w : List ℕ) : Std.Result Scan Refusal → Type 0 where
  wrong : {e : Refusal} → o ≡ refused (number_of e.reason) e.place → Scans room tw o ends w (Std.Err e)
  read : {c : Scan} (vs : List Value) → o ≡ ok vs → found c.odd ≡ odd vs → c.kept.room ≡ room
      → Keeping tw (forest_words (joined vs)) (entry_places vs) w c.kept → (length (entry_places vs) ≤ room → ends ≡ padded 16 (ends_of vs)) → Scans room tw o ends w (Std.Ok c)

-- the refusals in turn, and how many entries there are
abbrev pub judged : Std.Result Scan Refusal → Out ℕ
judged r = told r >>= λ c. refuse_at 19 (found c.odd) >>= λ _. refuse_at 20 (found c.kept.full) >>= λ _. ok c.kept.entries

-- where nothing was wrong and nothing without room, the entries are in the table
pub record Fitting (r : Std.Result Scan Refusal) (w : List ℕ) : Type 0 where
  pub low : (c : Scan) → r ≡ Std.Ok c → found c.kept.full ≡ none → forest_width * c.kept.entries ≤ length w

-- what is left of what was found
pub record Settles (tw : ℕ) (c : Std.Result Scan Refusal) (ends w : List ℕ) (r : Std.Result Loaded Refusal) (u : List ℕ) : Type 0 where
  pub leaves : (room : ℕ) (vars : List (ℕ × Var)) (s : List ℕ) → Scans room tw (read_values vars s 0) ends w c → Left tw r u (load_values room vars s)
