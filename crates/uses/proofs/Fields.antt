-- Which nodes the fields of a kind name, as the one grammar of records has it.
-- Assumes nothing.
use mathlib.Core.Path.{◌≡◌, refl}
use mathlib.Core.Logic.{◌⊎◌, inl, inr}
use mathlib.Core.Bool.{Bool, true, false, ◌||◌}
use mathlib.Core.List.{List, [], ◌∷◌}
use mathlib.Core.Option.{Option, none, some}
use Prim.Native.Nat.{ℕ, ◌≤◌, ◌<◌}
use native.Mathlib.Decide.{ℕ_discrete}
use native.Mathlib.Omega.{arith}
use borrow.Author.Tests.{ne_eqb, leb-true}
use lib.Dec.{eqb, leb}
use lib.ListN.{length}
use Rattle.meaning.specs.Base.{find}
use Rattle.meaning.specs.Kinds
use Rattle.meaning.specs.Records.{Form, forms, node}
use Rattle.meaning.specs.Checks.{named, named_by, uses_of}
use Rattle.meaning.proofs.Lists.{never}
use Rattle.meaning.proofs.Finding.{Rows, find_row, test_rows}

-- the kinds whose fields name nodes
naming : ℕ → Bool
naming k = eqb k Kinds.query·element || eqb k Kinds.query·pair || eqb k Kinds.query·for || eqb k Kinds.query·let || eqb k Kinds.query·when || eqb k Kinds.condition·or || eqb k Kinds.condition·not

nothing : List ℕ → Bool
nothing [] = true
nothing (q ∷ qs) = false

is_nothing : (qs : List ℕ) → nothing qs ≡ true → [] ≡ qs
unfolding nothing
is_nothing [] h = refl
is_nothing (q ∷ qs) h = never h

module _ (a b c : ℕ) where
  -- a kind is one of these, or its fields name nothing
  quiet : ℕ → Form → Bool
  quiet k f = naming k || nothing (named f.sorts (a ∷ b ∷ c ∷ []))

  all_quiet : Rows (λ k f. quiet k f ≡ true) forms
  unfolding forms quiet naming nothing named
  all_quiet = test_rows quiet forms refl

  quiet_form : (k : ℕ) (o : Option Form) → find k forms ≡ o → naming k ≡ false → [] ≡ named_by o (a ∷ b ∷ c ∷ [])
  unfolding quiet
  quiet_form k none e n = refl
  quiet_form k (some f) e n = is_nothing (named f.sorts (a ∷ b ∷ c ∷ [])) (rw n at (find_row k f all_quiet e))

  -- no kind names more than two nodes
  few : ℕ → Form → Bool
  few k f = leb (length (named f.sorts (a ∷ b ∷ c ∷ []))) 2

  all_few : Rows (λ k f. few k f ≡ true) forms
  unfolding forms few named
  all_few = test_rows few forms refl

  few_form : (k : ℕ) (o : Option Form) → find k forms ≡ o → length (named_by o (a ∷ b ∷ c ∷ [])) ≤ 2
  unfolding few
  few_form k none e = omega arith
  few_form k (some f) e = leb-true (length (named f.sorts (a ∷ b ∷ c ∷ []))) 2 (find_row k f all_few e)

  pub uses_few : (k : ℕ) → length (uses_of (node k a b c)) ≤ 2
  uses_few k = few_form k (find k forms) refl

  -- a kind that is none of those uses nothing
  pub uses_nothing : (k : ℕ) → (k ≡ Kinds.query·element → ⊥) → (k ≡ Kinds.query·pair → ⊥) → (k ≡ Kinds.query·for → ⊥) → (k ≡ Kinds.query·let → ⊥) → (k ≡ Kinds.query·when → ⊥) → (k ≡ Kinds.condition·or → ⊥) → (k ≡ Kinds.condition·not → ⊥) → [] ≡ uses_of (node k a b c)
  unfolding naming
  uses_nothing k p q r s t u v =
      quiet_form k (find k forms) refl (rw (ne_eqb k Kinds.query·element p, ne_eqb k Kinds.query·pair q, ne_eqb k Kinds.query·for r, ne_eqb k Kinds.query·let s, ne_eqb k Kinds.query·when t, ne_eqb k Kinds.condition·or u, ne_eqb k Kinds.condition·not v))

-- WHAT THE FIELDS NAME, by the kind
module _ {k : ℕ} (a b c : ℕ) where
  pub names_parts : (k ≡ Kinds.query·pair) ⊎ ((k ≡ Kinds.query·when) ⊎ (k ≡ Kinds.condition·or)) → (a ∷ b ∷ []) ≡ uses_of (node k a b c)
  unfolding find forms named
  names_parts (inl e) = rw e refl
  names_parts (inr (inl e)) = rw e refl
  names_parts (inr (inr e)) = rw e refl

  names_either : (k ≡ Kinds.query·for) ⊎ (k ≡ Kinds.query·let) → (b ∷ c ∷ []) ≡ uses_of (node k a b c)
  unfolding find forms named
  names_either (inl e) = rw e refl
  names_either (inr e) = rw e refl

  pub names_bound : 38 < k → k < 41 → (b ∷ c ∷ []) ≡ uses_of (node k a b c)
  names_bound l h = go (ℕ_discrete k Kinds.query·for)
    where
      go : Dec (k ≡ Kinds.query·for) → (b ∷ c ∷ []) ≡ uses_of (node k a b c)
      go (yes e) = names_either (inl e)
      go (no n) = names_either (inr (omega arith))
