-- The atoms that are marked and pass a test, one after the other: the first from a number on, those after it, and the unions over them.
-- Assumes nothing.
use mathlib.Core.Path.{◌≡◌, refl, sym, ap, subst, ◌∙◌}
use mathlib.Core.Bool.{Bool, true, false}
use mathlib.Core.List.{List, [], ◌∷◌}
use Prim.Native.Nat.{ℕ, zero, suc, ◌+◌, ◌-◌, ◌<◌, ◌≤◌}
use native.Mathlib.Omega.{arith}
use native.Mathlib.Decide.{dec_lt}
use lib.ListN.{length, get_or}
use Rattle.std.specs.Prelude as Std
use Rattle.std.specs.Option.{MatchOption}
use Rattle.meaning.specs.Base.{ok, kept_from}
use Rattle.meaning.specs.Types as Types
use Rattle.meaning.specs.Types.{Table, Defs, head_of, at}
use Rattle.meaning.specs.Reach.{reached, atom_passes, atoms_below}
use Rattle.meaning.specs.Rules as Rules
use Rattle.meaning.specs.Rules.{append, unions}
use Rattle.reach.specs.Marks.{marks_of}
use Rattle.reach.specs.Atoms as Atoms
use Rattle.reach.specs.Atoms.{picked, Next}
use Rattle.reach.proofs.Marks.{marked_at, unmarked_at}

-- ONE ENTRY: not marked, and marked
module _ (test : ℕ) (T : Table) (ms : List ℕ) (i : ℕ) (low : i < length T) where
  pub chosen_over : get_or ms i 0 ≡ 0 → false ≡ picked test T (marks_of (length T) ms) i
  unfolding picked
  chosen_over p = sym (rw (unmarked_at (length T) ms i low p))

  pub chosen_atom : {r : Bool} → (get_or ms i 0 ≡ 0 → ⊥) → r ≡ atom_passes test (head_of (at T i)) → r ≡ picked test T (marks_of (length T) ms) i
  unfolding picked
  chosen_atom p q = q ∙ sym (rw (marked_at (length T) ms i low p))

-- THE LOOP: what is kept from i on is what is kept from k on
pub record Seeking (f : ℕ → Bool) (n i k : ℕ) : Type 0 where
  pub from : i ≤ k
  pub rest : kept_from f i (n - i) ≡ kept_from f k (n - k)

pub seeking_none : (f : ℕ → Bool) (n i : ℕ) → Seeking f n i i
seeking_none f n i = record { from = omega arith; rest = refl }

module _ {f : ℕ → Bool} {n i k : ℕ} (s : Seeking f n i k) where
  left : k < n → n - k ≡ suc (n - (k + 1))
  left h = omega arith

  pub seeking_more : {b : Bool} → k < n → b ≡ f k → b ≡ false → Seeking f n i (k + 1)
  unfolding kept_from
  seeking_more h q e =
      let p : f k ≡ false = sym q ∙ e in
      let next : suc k ≡ k + 1 = omega arith in
      record { from = omega (arith, s.from); rest = s.rest ∙ simp (left h, p, kept_from) (ap (λ (j : ℕ). kept_from f j (n - (k + 1))) next) }

  pub seeking_here : {b : Bool} → k < n → b ≡ f k → b ≡ true → Next f n i (Std.Some k)
  unfolding kept_from
  seeking_here h q e =
      let p : f k ≡ true = sym q ∙ e in
      let next : suc k ≡ k + 1 = omega arith in
      Atoms.one s.from h p (s.rest ∙ simp (left h, p, kept_from, next))

  pub seeking_all : n ≤ k → Next f n i Std.None
  unfolding kept_from
  seeking_all h = let over : n - k ≡ 0 = omega arith in Atoms.none (s.rest ∙ rw over)

-- where none passes on the way from i, d further
seeking_to : (f : ℕ → Bool) (n i d : ℕ) → ((j : ℕ) → i ≤ j → j < i + d → f j ≡ false) → i + d ≤ n → Seeking f n i (i + d)
seeking_to f n i zero h l = let p : i + 0 ≡ i = omega arith in rw p (seeking_none f n i)
seeking_to f n i (suc d) h l =
    let p : i + suc d ≡ i + d + 1 = omega arith in
    rw p (seeking_more (seeking_to f n i d (λ j a b. h j a (omega arith)) (omega arith)) (omega arith) refl (h (i + d) (omega arith) (omega arith)))

-- the first of a range that passes
pub next_found : (f : ℕ → Bool) (n i : ℕ) (r : Std.Option ℕ)
    → MatchOption r ((j : ℕ) → i ≤ j → j < n → j < n → f j ≡ false) (λ k. (i ≤ k) × (k < n) × (k < n → f k ≡ true) × ((j : ℕ) → i ≤ j → j < k → j < n → f j ≡ false)) → Next f n i r
next_found f n i Std.None h = go (dec_lt n i)
  where
    go : Dec (n < i) → Next f n i Std.None
    go (yes l) = seeking_all (seeking_none f n i) (omega arith)
    go (no l) = seeking_all (seeking_to f n i (n - i) (λ j a b. h j a (omega arith) (omega arith)) (omega arith)) (omega arith)
next_found f n i (Std.Some k) h =
    let p : i + (k - i) ≡ k = omega (arith, h.0) in
    seeking_here (subst (Seeking f n i) p (seeking_to f n i (k - i) (λ j a b. h.3 j a (omega arith) (omega (arith, h.1))) (omega (arith, h.1)))) h.1 refl (h.2 h.1)

-- WHAT A CALLER LEARNS
pub next_low : {f : ℕ → Bool} {n i r : ℕ} → Next f n i (Std.Some r) → r < n
next_low (Atoms.one a b c d) = b

pub next_from : {f : ℕ → Bool} {n i r : ℕ} → Next f n i (Std.Some r) → i ≤ r
next_from (Atoms.one a b c d) = a

-- those kept: this one and those after it, or none
pub next_one : {f : ℕ → Bool} {n i r : ℕ} → Next f n i (Std.Some r) → kept_from f i (n - i) ≡ r ∷ kept_from f (r + 1) (n - (r + 1))
next_one (Atoms.one a b c d) = d

pub next_none : {f : ℕ → Bool} {n i : ℕ} → Next f n i Std.None → kept_from f i (n - i) ≡ []
next_none (Atoms.none d) = d

-- the unions over those kept: one more, then those after it; or no more
module _ {f : ℕ → Bool} {n i : ℕ} (room node u : ℕ) (T : Table) where
  pub unions_one : {r : ℕ} → Next f n i (Std.Some r) → unions room node u (kept_from f i (n - i)) T ≡ Rules.after (append room node (Types.union u r) T) (λ v. unions room node v (kept_from f (r + 1) (n - (r + 1))))
  unfolding unions
  unions_one x = rw (next_one x)

  pub unions_none : Next f n i Std.None → unions room node u (kept_from f i (n - i)) T ≡ ok (T, u)
  unfolding unions
  unions_none x = rw (next_none x)

-- THE ATOMS BELOW AN ENTRY are those kept by the marks of what it reaches
module _ (D : Defs) (T : Table) (e : ℕ) (ms : List ℕ) (test : ℕ) (marks : marks_of (length T) ms ≡ reached true D T e) where
  pub atoms_kept : atoms_below test D T e ≡ kept_from (picked test T (marks_of (length T) ms)) 0 (length T - 0)
  unfolding atoms_below picked
  atoms_kept =
      let size : length T ≡ length T - 0 = omega arith in
      rw (← marks) (ap (λ (n : ℕ). kept_from (picked test T (marks_of (length T) ms)) 0 n) size)

  pub atoms_one : {x : ℕ} → Next (picked test T (marks_of (length T) ms)) (length T) 0 (Std.Some x)
      → atoms_below test D T e ≡ x ∷ kept_from (picked test T (marks_of (length T) ms)) (x + 1) (length T - (x + 1))
  atoms_one n = atoms_kept ∙ next_one n

  pub atoms_none : Next (picked test T (marks_of (length T) ms)) (length T) 0 Std.None → atoms_below test D T e ≡ []
  atoms_none n = atoms_kept ∙ next_none n
