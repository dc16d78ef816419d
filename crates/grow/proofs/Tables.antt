-- Lent words that hold a table: their length, that they are `Lent`, and one entry more.
-- Assumes nothing.
use mathlib.Core.Path.{◌≡◌, sym, ap, ◌∙◌}
use mathlib.Core.List.{List, [], ◌∷◌, ◌++◌}
use Prim.Native.Nat.{ℕ, ◌+◌, ◌*◌, ◌-◌, ◌≤◌, ◌<◌}
use native.Mathlib.Omega.{arith}
use lib.ListN.{length, length-append}
use Rattle.meaning.specs.Base.{zeros, padded, type_width, type_capacity}
use Rattle.meaning.specs.Types.{Entry, Table, entry_words, table_words}
use Rattle.words.specs.Tables.{stored, table_of}
use Rattle.words.proofs.Rows.{zeros_length, rows_length}
use Rattle.words.proofs.Tables.{entry_wide, table_length, table_lent, table_more}
use Rattle.grow.specs.Grow.{Lent}

pub words_length : (room : ℕ) (T : Table) → type_width * length T ≤ room → length (padded room (table_words T)) ≡ room
words_length room T h =
    omega (arith, length-append (table_words T) (zeros (room - length (table_words T))), zeros_length (room - length (table_words T)), rows_length entry_words type_width entry_wide T)

-- words that hold a table give it back, and are lent
pub table_of_lem : {ws : List ℕ} (room : ℕ) (T : Table) → ws ≡ padded room (table_words T) → table_of ws (length T) ≡ T
table_of_lem room T q = ap (λ (us : List ℕ). table_of us (length T)) q ∙ table_lent room T

pub lent_of : {ws : List ℕ} (T : Table) → ws ≡ padded (length ws) (table_words T) → length T ≤ type_capacity (length ws) → Lent ws (length T)
lent_of {ws} T q h = record { fits = h; is = q ∙ ap (λ (t : Table). padded (length ws) (table_words t)) (sym (table_of_lem (length ws) T q)) }

-- one entry more, stored behind the others
module _ {ws : List ℕ} {n : ℕ} (L : Lent ws n) (x : Entry) (k a b : ℕ) (words : entry_words x ≡ k ∷ a ∷ b ∷ []) (room : n < type_capacity (length ws)) where
  abbrev T : Table
  T = table_of ws n

  abbrev us : List ℕ
  us = stored ws (type_width * n) (k ∷ a ∷ b ∷ [])

  long : length (T ++ (x ∷ [])) ≡ n + 1
  long = omega (arith, length-append T (x ∷ []), table_length ws n)

  grown : us ≡ padded (length ws) (table_words (T ++ (x ∷ [])))
  grown =
      ap (λ (vs : List ℕ). stored vs (type_width * n) (k ∷ a ∷ b ∷ [])) L.is
      ∙ rw table_length at (table_more (length ws) T x k a b words (omega (arith, table_length ws n)))

  pub more_long : length us ≡ length ws
  more_long = ap length grown ∙ words_length (length ws) (T ++ (x ∷ [])) (omega (arith, long))

  pub more_table : table_of us (n + 1) ≡ T ++ (x ∷ [])
  more_table = rw long at (table_of_lem {ws = us} (length ws) (T ++ (x ∷ [])) grown)

  pub more_lent : Lent us (n + 1)
  more_lent = rw long at (lent_of {ws = us} (T ++ (x ∷ [])) (rw more_long grown) (omega (arith, long, more_long)))
