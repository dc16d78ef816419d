-- One thing read after another: laws of `◌>>=◌`, and the answers of the steps put in their places.
-- Assumes nothing.
use mathlib.Core.Path.{◌≡◌, refl, sym, ap, ◌∙◌}
use mathlib.Core.Bool.{Bool, true, false}
use mathlib.Core.List.{List}
use Prim.Native.Nat.{ℕ}
use lib.Dec.{ltb}
use Rattle.meaning.specs.Base.{Out, ok, refused, ◌>>=◌, require}
use Rattle.meaning.specs.Texts.{Here, here, Read, look, past, expect, opened}
use Rattle.std.specs.Prelude as Std
use Rattle.refusals.specs.declared.Refusal.{Refusal}
use Rattle.refusals.specs.Says.{number_of}
use Rattle.steps.specs.declared.Got.{Got}
use Rattle.steps.specs.Says as Said
use Rattle.items.specs.Says.{opening}

pub bind_ok : {A : Type 0} (x : Out A) → (x >>= λ p. ok p) ≡ x
bind_ok (ok a) = refl
bind_ok (refused n p) = refl

pub bind_assoc : {A B C : Type 0} (x : Out A) (f : A → Out B) (g : B → Out C) → ((x >>= f) >>= g) ≡ (x >>= λ a. f a >>= g)
bind_assoc (ok a) f g = refl
bind_assoc (refused n p) f g = refl

pub bind_same : {A B : Type 0} (x : Out A) (f g : A → Out B) → ((a : A) → f a ≡ g a) → (x >>= f) ≡ (x >>= g)
bind_same (ok a) f g h = h a
bind_same (refused n p) f g h = refl

-- a token that opens
pub opened_then : {A : Type 0} (s : List ℕ) (deep : ℕ) (h : Here) (f : Here → Out A) → (opened s deep h >>= f) ≡ opening deep (look s h).place (f (past s h))
unfolding opened
opened_then s deep h f = go (ltb deep 100)
  where
    go : (b : Bool) → ((require b 23 (look s h).place >>= λ _. ok (past s h)) >>= f) ≡ (require b 23 (look s h).place >>= λ _. f (past s h))
    go true = refl
    go false = refl

-- WHERE THE TEXT IS, as the steps say it
pub at_here : {A : Type 0} (F : Here → A) {h : Here} {at : ℕ} → h.at ≡ at → F h ≡ F (here at h.nodes)
at_here F {h} e = ap (λ (a : ℕ). F (here a h.nodes)) e

module _ {A : Type 0} {s : List ℕ} {at : ℕ} (G : Here → Read ℕ) where
  pub got_then : {v : Got} → Said.Gives s at (Std.Ok v) (λ n. G (here at n)) → (h : Here) → h.at ≡ at → (K : ℕ × Here → Out A) → (G h >>= K) ≡ K (v.value, here v.next h.nodes)
  got_then g h p K = ap (λ (x : Read ℕ). x >>= K) (at_here G p ∙ sym (g.is h.nodes))

  pub got_not : {x : Refusal} → Said.Gives s at (Std.Err x) (λ n. G (here at n)) → (h : Here) → h.at ≡ at → (K : ℕ × Here → Out A) → (G h >>= K) ≡ refused (number_of x.reason) x.place
  got_not g h p K = ap (λ (x : Read ℕ). x >>= K) (at_here G p ∙ sym (g.is h.nodes))

module _ {A : Type 0} {s : List ℕ} {at : ℕ} (kind : ℕ) where
  pub went_then : {next : ℕ} → Said.Goes s at (Std.Ok next) (λ n. expect s kind (here at n)) → (h : Here) → h.at ≡ at → (K : Here → Out A) → (expect s kind h >>= K) ≡ K (here next h.nodes)
  went_then g h p K = ap (λ (x : Out Here). x >>= K) (at_here (expect s kind) p ∙ sym (g.is h.nodes))

  pub went_not : {x : Refusal} → Said.Goes s at (Std.Err x) (λ n. expect s kind (here at n)) → (h : Here) → h.at ≡ at → (K : Here → Out A) → (expect s kind h >>= K) ≡ refused (number_of x.reason) x.place
  went_not g h p K = ap (λ (x : Out Here). x >>= K) (at_here (expect s kind) p ∙ sym (g.is h.nodes))
