-- One record that was written is read back, whatever stands before and after it.
-- Assumes nothing.
use mathlib.Core.Path.{◌≡◌, refl, ap₂, sym, ◌∙◌}
use mathlib.Core.List.{List, [], ◌∷◌, ◌++◌, append_assoc}
use mathlib.Core.Option.{some}
use Prim.Native.Nat.{ℕ, ◌+◌, ◌*◌, ◌/◌, ◌%◌}
use native.Mathlib.Omega.{arith}
use native.Mathlib.Nat.{div-add-mod'}
use lib.ListN.{length, length-append}
use lib.Seq.{get_or-append-add, get_or-append_seam}
use borrow.Author.Tests.{eq-eqb, le-leb}
use Rattle.meaning.specs.Base.{ok, word, bytes_of}
use Rattle.meaning.specs.Records.{Sort, Form, File, form_in, fields_at, record_at}
use Rattle.meaning.specs.Answers.{record_of}
use Rattle.meaning.proofs.FileLength.{record_length}

-- the word that stands behind `before`
word_behind : (before : List ℕ) (w : ℕ) (rest : List ℕ) → word (before ++ w % 256 ∷ w / 256 ∷ rest) (length before) ≡ w
word_behind before w rest =
    omega (arith, get_or-append_seam before (w % 256) (w / 256 ∷ rest) 0, get_or-append-add before (w % 256 ∷ w / 256 ∷ rest) 1 0, div-add-mod' w 256)

fields_behind : (ss : List Sort) (ws before rest : List ℕ) → length ss ≡ length ws → fields_at (before ++ (bytes_of ws ++ rest)) (length before) ss ≡ ws
unfolding fields_at bytes_of
fields_behind [] [] before rest h = refl
fields_behind [] (w ∷ ws) before rest h = absurd (omega arith)
fields_behind (s ∷ ss) [] before rest h = absurd (omega arith)
fields_behind (s ∷ ss) (w ∷ ws) before rest h =
    let two : List ℕ = w % 256 ∷ w / 256 ∷ [] in
    ap₂ ◌∷◌ (word_behind before w (bytes_of ws ++ rest))
    (ap₂ (λ (l : List ℕ) (n : ℕ). fields_at l n ss) (sym (append_assoc before two (bytes_of ws ++ rest))) (sym (length-append before two))
    ∙ fields_behind ss ws (before ++ two) rest (omega arith))

-- a record's place among the bytes: its length and its kind, its fields, and where it ends
module _ (before rest ws : List ℕ) (kind : ℕ) where
  abbrev bytes : List ℕ
  bytes = before ++ (record_of kind ws ++ rest)

  abbrev size : ℕ
  size = 4 + 2 * length ws

  size_at : word bytes (length before) ≡ size
  unfolding bytes_of
  size_at = word_behind before size (bytes_of (kind ∷ ws) ++ rest)

  kind_at : word bytes (length before + 2) ≡ kind
  unfolding bytes_of
  kind_at =
      let two : List ℕ = size % 256 ∷ size / 256 ∷ [] in
      ap₂ word (sym (append_assoc before two (bytes_of (kind ∷ ws) ++ rest))) (sym (length-append before two))
      ∙ word_behind (before ++ two) kind (bytes_of ws ++ rest)

  fields_at_lem : (ss : List Sort) → length ss ≡ length ws → fields_at bytes (length before + 4) ss ≡ ws
  unfolding bytes_of
  fields_at_lem ss h =
      let four : List ℕ = size % 256 ∷ size / 256 ∷ kind % 256 ∷ kind / 256 ∷ [] in
      ap₂ (λ (l : List ℕ) (n : ℕ). fields_at l n ss) (sym (append_assoc before four (bytes_of ws ++ rest))) (sym (length-append before four))
      ∙ fields_behind ss ws (before ++ four) rest h

  ends_at : length bytes ≡ length before + size + length rest
  ends_at = omega (arith, length-append before (record_of kind ws ++ rest), length-append (record_of kind ws) rest, record_length kind ws)

-- THE RECORD: 1, 2 and 3 pass it, if the file has its kind and it has as many fields as that kind
pub record_back : (file : File) (f : Form) (before rest ws : List ℕ) (kind : ℕ) → form_in file kind ≡ some f → length f.sorts ≡ length ws
    → record_at file (before ++ (record_of kind ws ++ rest)) (length before) ≡ ok (record { kind = kind; form = f; fields = ws; next = length before + length (record_of kind ws) })
unfolding record_at
record_back file f before rest ws kind known sized =
    simp (
      le-leb (length before + 4) (length (bytes before rest ws kind)) (omega (arith, ends_at before rest ws kind)),
      kind_at before rest ws kind,
      known,
      size_at before rest ws kind,
      eq-eqb (4 + 2 * length ws) (4 + 2 * length ws) refl,
      le-leb (length before + (4 + 2 * length ws)) (length (bytes before rest ws kind)) (omega (arith, ends_at before rest ws kind)),
      fields_at_lem before rest ws kind f.sorts sized,
      sized,
      record_length kind ws,
    )
