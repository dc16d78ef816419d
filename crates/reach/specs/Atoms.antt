-- The atoms that are marked and pass a test, and the first of them from a number on.
-- Assumes nothing.
use Rattle.std.specs.Prelude.{◌≡◌, Option, Some, None, Bool, true, false, ◌&&◌, List, [], ◌∷◌, ℕ, ◌+◌, ◌-◌, ◌≤◌, ◌<◌, get_or}
use Rattle.meaning.specs.Base.{kept_from}
use Rattle.meaning.specs.Types.{Table, head_of, at}
use Rattle.meaning.specs.Reach.{atom_passes}

-- the test by which `atoms_below` keeps an entry
unfoldable pub picked : ℕ → Table → List Bool → ℕ → Bool
picked test T marks i = get_or marks i false && atom_passes test (head_of (at T i))

-- the first number from i on, below n, that passes is r; or none passes
pub data Next (f : ℕ → Bool) (n i : ℕ) : Option ℕ → Type 0 where
  one : {r : ℕ} → i ≤ r → r < n → f r ≡ true → kept_from f i (n - i) ≡ r ∷ kept_from f (r + 1) (n - (r + 1)) → Next f n i (Some r)
  none : kept_from f i (n - i) ≡ [] → Next f n i None
