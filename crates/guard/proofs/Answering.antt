-- What the sets show is refusal 10's, and 9 and 10 together are `check_types`.
-- Assumes nothing.
use mathlib.Core.Path.{◌≡◌, refl, ap, sym, ◌∙◌, subst}
use mathlib.Core.Bool.{Bool}
use mathlib.Core.List.{List}
use mathlib.Core.Option.{Option, none, some}
use Prim.Native.Nat.{ℕ}
use lib.ListN.{length, get_or}
use Rattle.meaning.specs.Base.{◌>>=◌, refuse_at, lowest, lowest_from}
use Rattle.meaning.specs.Types.{Table, Defs}
use Rattle.meaning.specs.Reach.{loops}
use Rattle.meaning.specs.Checks.{undefined_name, check_types}
use Rattle.meaning.proofs.Lists.{at_is}
use Rattle.words.specs.Says.{found}
use Rattle.guard.specs.Says.{outcome, Given}
use Rattle.guard.specs.Sets.{bit_at, Laid, Filled, Begun, Closed}
use Rattle.std.specs.Prelude as Std
use Rattle.refusals.specs.declared.Reason.{Reason}
use Rattle.guard.proofs.Filling.{types_laid}
use Rattle.guard.proofs.Circles.{lowest_circles}

-- among no definitions there is no circle
pub circle_none : {used : ℕ} (f : ℕ → Bool) → used ≡ 0 → found Std.None ≡ lowest f used
unfolding lowest_from
circle_none f q = rw q

module _ {T : Table} {D : Defs} (g : Given T D) where
  pub given_laid : Laid T
  given_laid = types_laid g.types_read

  -- 10
  pub circle_found : (masks reach₀ reach : List ℕ) {n : ℕ} → n ≡ length D → Filled T masks → Begun D masks reach₀ → Closed n reach₀ reach → lowest (λ d. bit_at reach d d) n ≡ lowest (loops D T) (length D)
  circle_found masks reach₀ reach {n} long filled begun closed =
      ap (lowest (λ d. bit_at reach d d)) long
      ∙ lowest_circles D T given_laid (λ d l. g.defs_read.defined d (get_or D d 0) (at_is D d 0 l)) g.types_read.zeroth masks reach₀ reach filled begun
      (subst (λ (n : ℕ). Closed n reach₀ reach) long closed)

  -- 9, then 10
  checked : {nine ten : Option ℕ} → nine ≡ lowest (undefined_name D T) (length T) → ten ≡ lowest (loops D T) (length D) → (refuse_at 9 nine >>= λ _. refuse_at 10 ten) ≡ check_types D T
  unfolding check_types
  checked p q = sym (rw (← p, ← q))

  module _ {r : Std.Option ℕ} (p : found r ≡ lowest (undefined_name D T) (length T)) where
    pub checked_nine : {e : ℕ} → r ≡ Std.Some e → outcome (Std.Err (record { reason = Reason.NoDefinition; place = e })) ≡ check_types D T
    checked_nine {e} q = checked {nine = some e} (ap found (sym q) ∙ p) refl

    module _ {s : Std.Option ℕ} (u : r ≡ Std.None) (h : found s ≡ lowest (loops D T) (length D)) where
      pub checked_ten : {d : ℕ} → s ≡ Std.Some d → outcome (Std.Err (record { reason = Reason.Circle; place = d })) ≡ check_types D T
      checked_ten {d} q = checked {nine = none} {ten = some d} (ap found (sym u) ∙ p) (ap found (sym q) ∙ h)

      pub checked_sound : s ≡ Std.None → outcome (Std.Ok tt) ≡ check_types D T
      checked_sound q = checked {nine = none} {ten = none} (ap found (sym u) ∙ p) (ap found (sym q) ∙ h)
