-- The lines that the programs print, as bytes.
-- Assumes nothing.
use Rattle.std.specs.Prelude.{ℕ, zero, suc, ◌+◌, ◌-◌, ◌*◌, ◌/◌, ◌%◌, min, true, false, List, [], ◌∷◌, ◌++◌, length, get_or, ltb}
use Rattle.meaning.specs.Base.{type_width}

-- the ASCII code of a digit below 10
abbrev pub digit_ascii : ℕ → ℕ
digit_ascii d = 48 + d

-- A NUMBER IN DECIMAL, with no zero in front: its last digit stands behind those of a tenth of it. 20 digits hold every number of 64 bits
unfoldable pub spelled : ℕ → ℕ → List ℕ
spelled zero n = []
spelled (suc most) n = elim (ltb n 10) [ true ↦ digit_ascii n ∷ [] | false ↦ spelled most (n / 10) ++ (digit_ascii (n % 10) ∷ []) ]

abbrev pub decimal : ℕ → List ℕ
decimal n = spelled 20 n

-- a number with a byte behind it
abbrev pub ended : ℕ → ℕ → List ℕ
ended n behind = decimal n ++ (behind ∷ [])

abbrev pub space : ℕ
space = 32

abbrev pub newline : ℕ
newline = 10

-- "per entry its number, kind, a, b"
unfoldable pub entry_line : ℕ → ℕ → ℕ → ℕ → List ℕ
entry_line e kind a b = ended e space ++ ended kind space ++ ended a space ++ ended b newline

-- so many entries of a table, from one on, a line for each
unfoldable pub entry_lines : List ℕ → ℕ → ℕ → List ℕ
entry_lines table first zero = []
entry_lines table first (suc n) = entry_lines table first n ++ entry_line (first + n) (get_or table (type_width * (first + n)) 0) (get_or table (type_width * (first + n) + 1) 0) (get_or table (type_width * (first + n) + 2) 0)

-- the same, as far as the table has them
unfoldable pub stretch_lines : List ℕ → ℕ → ℕ → List ℕ
stretch_lines table first count =
    let most : ℕ = length table / 3 in
    let from : ℕ = min first most in
    entry_lines table from (min count (most - from))

-- "result N"
abbrev pub result : List ℕ
result = 114 ∷ 101 ∷ 115 ∷ 117 ∷ 108 ∷ 116 ∷ space ∷ []

unfoldable pub result_line : ℕ → List ℕ
result_line n = result ++ ended n newline

-- "result FIRST LENGTH"
unfoldable pub stretch_line : ℕ → ℕ → List ℕ
stretch_line first n = result ++ ended first space ++ ended n newline

-- "refused N at P"
abbrev pub refused : List ℕ
refused = 114 ∷ 101 ∷ 102 ∷ 117 ∷ 115 ∷ 101 ∷ 100 ∷ space ∷ []

abbrev pub at : List ℕ
at = 97 ∷ 116 ∷ space ∷ []

unfoldable pub refused_line : ℕ → ℕ → List ℕ
refused_line n place = refused ++ ended n space ++ at ++ ended place newline
