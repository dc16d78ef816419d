-- What an entry reaches: as a relation, and computed by marks. Refusal 10 and dos use it.
-- Assumes nothing.
use Rattle.std.specs.Prelude.{ℕ, zero, suc, Bool, true, false, ◌&&◌, List, [], ◌∷◌, eqb, length, get_or, set, replicate}
use Rattle.std.proofs.Math.Option.{Option, none, some}
use Rattle.meaning.specs.Base.{At, In, lowest, is_some, kept_from}
use Rattle.meaning.specs.Forests.{Head, passes}
use Rattle.meaning.specs.Types.{Entry, empty, string, element, pair, union, star, plus, opt, name, Table, Defs, at, head_of, name_of}

-- "through pairs, unions, star, plus, opt and names, and again from the child of each element reached" (enter); "without entering an element" (not
-- enter): the entries that stand directly in an entry
unfoldable pub steps_of : Bool → Defs → Entry → List ℕ
steps_of enter D empty = []
steps_of enter D string = []
steps_of enter D (element l c) = elim enter [ true ↦ c ∷ [] | false ↦ [] ]
steps_of enter D (pair a b) = a ∷ b ∷ []
steps_of enter D (union a b) = a ∷ b ∷ []
steps_of enter D (star a) = a ∷ []
steps_of enter D (plus a) = a ∷ []
steps_of enter D (opt a) = a ∷ []
steps_of enter D (name d) = get_or D d 0 ∷ []

-- from entry a to entry b by such steps, none or more (S figure 2)
pub data Path (enter : Bool) (D : Defs) (T : Table) (a : ℕ) : ℕ → Type 0 where
  here : Path enter D T a a
  step : {i j : ℕ} {x : Entry} → Path enter D T a i → At T i x → In j (steps_of enter D x) → Path enter D T a j

-- MARKS, a Bool for each entry: those of a list set
unfoldable pub mark : List Bool → List ℕ → List Bool
mark m [] = m
mark m (x ∷ xs) = mark (set m x true) xs

-- from entry k - 1 down to entry 0: what stands directly in a marked entry is marked
unfoldable pub sweep : ℕ → Bool → Defs → Table → List Bool → List Bool
sweep zero enter D t m = m
sweep (suc e) enter D t m = sweep e enter D t (elim (get_or m e false) [ true ↦ mark m (steps_of enter D (at t e)) | false ↦ m ])

unfoldable pub sweeps : ℕ → Bool → Defs → Table → List Bool → List Bool
sweeps zero enter D t m = m
sweeps (suc k) enter D t m = sweeps k enter D t (sweep (length t) enter D t m)

-- what an entry reaches, itself too. Each sweep that is not the last marks one more, so there are no more of them than entries.
abbrev pub reached : Bool → Defs → Table → ℕ → List Bool
reached enter D t e = sweeps (length t) enter D t (set (replicate (length t) false) e true)

-- REFUSAL 10. Is the entry a name of definition d?
abbrev pub names : ℕ → Option ℕ → Bool
names d none = false
names d (some c) = eqb d c

-- does entry e reach a name of definition d without entering an element
unfoldable pub reaches_name : Defs → Table → ℕ → ℕ → Bool
reaches_name D t e d =
    let m = reached false D t e in
    is_some (lowest (λ i. get_or m i false && names d (name_of (at t i))) (length t))

-- "definition reaches itself without entering an element"
abbrev pub loops : Defs → Table → ℕ → Bool
loops D t d = reaches_name D t (get_or D d 0) d

-- DOS. Is the entry an atom that passes the test?
abbrev pub atom_passes : ℕ → Option Head → Bool
atom_passes w none = false
atom_passes w (some h) = passes w h

-- "the atoms .. reached from v's type .. Those that pass the test, by increasing entry number"
unfoldable pub atoms_below : ℕ → Defs → Table → ℕ → List ℕ
atoms_below w D t e =
    let m = reached true D t e in
    kept_from (λ i. get_or m i false && atom_passes w (head_of (at t i))) 0 (length t)
