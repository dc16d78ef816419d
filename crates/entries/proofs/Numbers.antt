-- Types by the kind of their entry.
-- Assumes nothing.
use mathlib.Core.Path.{◌≡◌}
use Prim.Native.Nat.{ℕ}
use borrow.Author.Tests.{ne_eqb}
use Rattle.meaning.specs.Base.{find}
use Rattle.meaning.specs.Types.{empty, entry_of}

-- a kind of none of these is ()
pub entry_rest : (k a b : ℕ) → (k ≡ 2 → ⊥) → (k ≡ 3 → ⊥) → (k ≡ 4 → ⊥) → (k ≡ 5 → ⊥) → (k ≡ 6 → ⊥) → (k ≡ 7 → ⊥) → (k ≡ 8 → ⊥) → (k ≡ 9 → ⊥) → empty ≡ entry_of k a b
unfolding entry_of find
entry_rest k a b h2 h3 h4 h5 h6 h7 h8 h9 =
    simp (entry_of, find, ne_eqb k 2 h2, ne_eqb k 3 h3, ne_eqb k 4 h4, ne_eqb k 5 h5, ne_eqb k 6 h6, ne_eqb k 7 h7, ne_eqb k 8 h8, ne_eqb k 9 h9)
