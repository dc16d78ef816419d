-- Conditions by the kind of their node.
-- Assumes nothing.
use mathlib.Core.Path.{◌≡◌, refl}
use Prim.Native.Nat.{ℕ}
use native.Mathlib.Decide.{ℕ_discrete}
use borrow.Author.Tests.{ne_eqb}
use Rattle.meaning.specs.Base.{find}
use Rattle.meaning.specs.Kinds
use Rattle.meaning.specs.Records.{node}
use Rattle.meaning.specs.Queries.{expand_cond}
use Rattle.conds.specs.Says.{Says}
use Rattle.conds.specs.declared.Cond.{Cond}

-- what a node says, at the kind's number
pub says_kind : (n a b d : ℕ) {k j : ℕ} {c : Cond} → k ≡ j → Says n (node j a b d) c → Says n (node k a b d) c
says_kind n a b d p h = rw p h

-- a kind of none of the others says false
module _ (n a b d k : ℕ) where
  says_other : (k ≡ Kinds.condition·true → ⊥) → (k ≡ Kinds.condition·equal → ⊥) → (k ≡ Kinds.condition·empty → ⊥) → (k ≡ Kinds.condition·or → ⊥) → (k ≡ Kinds.condition·not → ⊥) → (k ≡ Kinds.condition·false → ⊥) → Says n (node k a b d) Cond.False
  unfolding expand_cond find
  says_other p q r s t u =
      record { is = λ f. simp (expand_cond, find, ne_eqb k Kinds.condition·true p, ne_eqb k Kinds.condition·false u, ne_eqb k Kinds.condition·equal q, ne_eqb k Kinds.condition·empty r, ne_eqb k Kinds.condition·or s, ne_eqb k Kinds.condition·not t) }

  says_false : k ≡ Kinds.condition·false → Says n (node k a b d) Cond.False
  unfolding expand_cond find
  says_false p = says_kind n a b d p (record { is = λ f. refl })

  pub says_rest : (k ≡ Kinds.condition·true → ⊥) → (k ≡ Kinds.condition·equal → ⊥) → (k ≡ Kinds.condition·empty → ⊥) → (k ≡ Kinds.condition·or → ⊥) → (k ≡ Kinds.condition·not → ⊥) → Says n (node k a b d) Cond.False
  says_rest p q r s t = go (ℕ_discrete k Kinds.condition·false)
    where
      go : Dec (k ≡ Kinds.condition·false) → Says n (node k a b d) Cond.False
      go (yes u) = says_false u
      go (no u) = says_other p q r s t u
