-- What the rules do at an entry that was read.
-- Assumes nothing.
use mathlib.Core.Path.{◌≡◌, ap, sym, subst, ◌∙◌}
use Prim.Native.Nat.{ℕ, ◌<◌}
use lib.ListN.{length}
use Rattle.meaning.specs.Base.{At}
use Rattle.meaning.specs.Types as Types
use Rattle.meaning.specs.Types.{Table, Defs, at}
use Rattle.meaning.specs.Formed.{Formed}
use Rattle.meaning.proofs.Lists.{at_is}
use Rattle.entries.specs.Says.{shown}
use Rattle.entries.specs.declared.Ty.{Ty}
use Rattle.acts.specs.Acts.{prime_of, content_of, sift_of, act_of}
use Rattle.acts.specs.declared.Mode.{Mode}
use Rattle.acts.specs.declared.Act.{Act}

module _ (D : Defs) (T : Table) (e : ℕ) (x : Ty) (q : shown x ≡ at T e) where
  -- a name's definition is there to be read
  pub name_inside : Formed D T → e < length T → (d : ℕ) → shown x ≡ Types.name d → d < length D
  name_inside F low d p = F.named e d (subst (At T e) (sym q ∙ p) (at_is T e Types.empty low))

  -- what is done at the entry that was read is what is done at the entry
  module _ {mode : Mode} {r : Act} where
    pub looked_prime : mode ≡ Mode.Prime → r ≡ prime_of D e (shown x) → r ≡ act_of mode D e (at T e)
    unfolding act_of
    looked_prime p k = rw p (k ∙ ap (prime_of D e) q)

    pub looked_content : mode ≡ Mode.Content → r ≡ content_of (shown x) → r ≡ act_of mode D e (at T e)
    unfolding act_of
    looked_content p k = rw p (k ∙ ap content_of q)

    pub looked_sift : {test : ℕ} → mode ≡ Mode.Sift test → r ≡ sift_of test D e (shown x) → r ≡ act_of mode D e (at T e)
    unfolding act_of
    looked_sift {test} p k = rw p (k ∙ ap (sift_of test D e) q)
