-- How long an answer file can be: the place of refusal 17.
-- Assumes nothing.
use mathlib.Core.Path.{◌≡◌, refl}
use mathlib.Core.List.{List, [], ◌∷◌, ◌++◌}
use Prim.Native.Nat.{ℕ, ◌+◌, ◌*◌, ◌≤◌}
use native.Mathlib.Omega.{arith}
use native.Mathlib.Nat.{mul-suc}
use lib.ListN.{length, drop, length-append, length-drop}
use Rattle.meaning.specs.Base.{concat_map, bytes_of}
use Rattle.meaning.specs.Kinds.{record·result, record·definition}
use Rattle.meaning.specs.Types as Types
use Rattle.meaning.specs.Types.{Entry, Table, Defs, kind_of, fields_of}
use Rattle.meaning.specs.Answers.{record_of, type_record, def_record, answer_file}

bytes_length : (ws : List ℕ) → length (bytes_of ws) ≡ 2 * length ws
unfolding bytes_of
bytes_length [] = refl
bytes_length (w ∷ ws) = omega (arith, bytes_length ws)

pub record_length : (kind : ℕ) (ws : List ℕ) → length (record_of kind ws) ≡ 4 + 2 * length ws
record_length kind ws = omega (arith, bytes_length ((4 + 2 * length ws) ∷ kind ∷ ws))

pub concat_short : {A : Type 0} (f : A → List ℕ) (n : ℕ) → ((x : A) → length (f x) ≤ n) → (l : List A) → length (concat_map f l) ≤ n * length l
unfolding concat_map
concat_short f n h [] = omega arith
concat_short f n h (x ∷ l) = omega (arith, length-append (f x) (concat_map f l), h x, concat_short f n h l, mul-suc n (length l))

few_fields : (x : Entry) → length (fields_of x) ≤ 2
unfolding fields_of
few_fields Types.empty = omega arith
few_fields Types.string = omega arith
few_fields (Types.element l c) = omega arith
few_fields (Types.pair a b) = omega arith
few_fields (Types.union a b) = omega arith
few_fields (Types.star a) = omega arith
few_fields (Types.plus a) = omega arith
few_fields (Types.opt a) = omega arith
few_fields (Types.name d) = omega arith

pub file_short : (T : Table) (D : Defs) (e : ℕ) → length (answer_file T D e) ≤ 8 * length T + 6 * length D + 6
unfolding answer_file
file_short T D e =
    let types : length (concat_map type_record (drop 2 T)) ≤ 8 * length (drop 2 T) =
    concat_short type_record 8 (λ x. omega (arith, record_length (kind_of x) (fields_of x), few_fields x)) (drop 2 T) in
    let defs : length (concat_map def_record D) ≤ 6 * length D =
    concat_short def_record 6 (λ d. omega (arith, record_length record·definition (d ∷ []))) D in
    omega (
      arith,
      length-append (concat_map type_record (drop 2 T)) (concat_map def_record D ++ record_of record·result (e ∷ [])),
      length-append (concat_map def_record D) (record_of record·result (e ∷ [])),
      record_length record·result (e ∷ []),
      length-drop 2 T,
    )
