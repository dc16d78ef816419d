-- For callers: what an answer tells of the scope. Every scope of the code shows one, so that a free variable's word is 0.
-- Assumes nothing.
use Rattle.std.specs.Prelude as Std
use Rattle.std.specs.Prelude.{Result}
use mathlib.Core.Path.{◌≡◌, refl, sym, ◌∙◌}
use mathlib.Core.Logic.{◌≢◌}
use mathlib.Core.Bool.{not}
use mathlib.Core.List.{List, [], ◌∷◌}
use mathlib.Core.Option.{Option, none, some}
use Prim.Native.Nat.{ℕ, zero, suc, ◌≤◌, ◌<◌}
use native.Mathlib.Omega.{arith}
use native.Mathlib.Decide.{ℕ_discrete}
use borrow.Author.Tests.{eq-eqb, ne_eqb}
use lib.ListN.{get_or}
use Rattle.meaning.specs.Base.{ok, ◌>>=◌, given, require, is_some, find}
use Rattle.meaning.specs.Records as Records
use Rattle.meaning.specs.Records.{type_in}
use Rattle.meaning.specs.Typing as Typing
use Rattle.meaning.specs.Typing.{lookup, only_tree, tree_type, unbound}
use Rattle.scope.specs.Shows.{found, Shows}
use Rattle.scope.specs.declared.Scope.{Scope}
use Rattle.scope.specs.declared.Var.{Var}
use Rattle.scope.proofs.Slots.{found_none}
use Rattle.conds.specs.Says.{Answers}

-- EVERY SCOPE SHOWS ONE: the variables below n that its words say
module _ (slots : List (Std.Option Var)) where
  said : ℕ → Option Records.Var → Typing.Scope → Typing.Scope
  said n none g = g
  said n (some x) g = (n, x) ∷ g

  sayings : ℕ → Typing.Scope
  sayings zero = []
  sayings (suc n) = said n (found (get_or slots n Std.None)) (sayings n)

  find_said : (n v : ℕ) (o : Option Records.Var) (g : Typing.Scope) → v ≢ n → find v (said n o g) ≡ find v g
  unfolding said find
  find_said n v none g h = refl
  find_said n v (some x) g h = rw (find, ne_eqb v n h)

  find_here : (n : ℕ) (o : Option Records.Var) (g : Typing.Scope) → find n g ≡ none → find n (said n o g) ≡ o
  unfolding said find
  find_here n none g h = h
  find_here n (some x) g h = rw (find, eq-eqb n n refl)

  find_above : (n v : ℕ) → n ≤ v → find v (sayings n) ≡ none
  unfolding sayings find
  find_above zero v l = refl
  find_above (suc n) v l = find_said n v (found (get_or slots n Std.None)) (sayings n) (λ p. omega arith) ∙ find_above n v (omega arith)

  find_below : (n v : ℕ) → v < n → find v (sayings n) ≡ found (get_or slots v Std.None)
  unfolding sayings
  find_below zero v l = absurd (omega arith)
  find_below (suc n) v l = go (ℕ_discrete v n) (λ below. find_below n v below)
    where
      go : Dec (v ≡ n) → (v < n → find v (sayings n) ≡ found (get_or slots v Std.None)) → find v (said n (found (get_or slots n Std.None)) (sayings n)) ≡ found (get_or slots v Std.None)
      go (yes p) h = rw p (find_here n (found (get_or slots n Std.None)) (sayings n) (find_above n n (omega arith)))
      go (no p) h = find_said n v (found (get_or slots n Std.None)) (sayings n) p ∙ h (omega arith)

pub shown : Scope → Typing.Scope
shown s = sayings s.slots 64

pub shows_shown : (s : Scope) → Shows s (shown s)
unfolding shown
shows_shown s v l = sym (find_below s.slots 64 v l)

pub shown_none : (s : Scope) (v : ℕ) → 64 ≤ v → find v (shown s) ≡ none
unfolding shown
shown_none s v l = find_above s.slots 64 v l

-- 14: a variable that may be bound is free, so `unbind` gives the scope back (`unbind_bind`)
free_none : (o : Option Records.Var) (n : ℕ) → require (not (is_some o)) 14 n ≡ ok tt → o ≡ none
free_none none n h = refl
free_none (some x) n h = let z : ◌≡◌ {A = ℕ} 0 1 = cc in absurd (omega arith)

pub unbound_free : (n v : ℕ) {s : Scope} → v ≤ 63 → Answers s (ok tt) (λ g. unbound n g v) → get_or s.slots v Std.None ≡ Std.None
unbound_free n v {s} l a =
    let low : v < 64 = omega arith in
    found_none (get_or s.slots v Std.None) (shows_shown s v low ∙ free_none (find v (shown s)) n (sym (a.is (shown s) (shows_shown s))))

-- 13 AND 15: an entry that is told is that of a variable in scope
entry_given : (o : Option Records.Var) (n e : ℕ) → (given o 13 n >>= λ y. ok (type_in y)) ≡ ok e → (y : Records.Var) × ((o ≡ some y) × (type_in y ≡ e))
entry_given none n e h = let z : ◌≡◌ {A = ℕ} 0 1 = cc in absurd (omega arith)
entry_given (some y) n e h = (y, (refl, (cc)))

tree_given : (o : Option Records.Var) (n e : ℕ) → (given o 13 n >>= only_tree n) ≡ ok e → o ≡ some (Records.tree e)
tree_given none n e h = let z : ◌≡◌ {A = ℕ} 0 1 = cc in absurd (omega arith)
tree_given (some (Records.tree x)) n e h = cc
tree_given (some (Records.forest x)) n e h = let z : ◌≡◌ {A = ℕ} 0 1 = cc in absurd (omega arith)

module _ (n v : ℕ) {s : Scope} (g : Typing.Scope) {e : ℕ} where
  pub variable_found : Answers s (ok e) (λ g. lookup n g v >>= λ y. ok (type_in y)) → Shows s g → (y : Records.Var) × ((find v g ≡ some y) × (type_in y ≡ e))
  variable_found a h = entry_given (find v g) n e (sym (a.is g h))

  pub tree_found : Answers s (ok e) (λ g. tree_type n g v) → Shows s g → find v g ≡ some (Records.tree e)
  tree_found a h = tree_given (find v g) n e (sym (a.is g h))
