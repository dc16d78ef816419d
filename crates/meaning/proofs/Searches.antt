-- Searches: the lowest number that passes a test is the lowest, and there is none only if none passes; those that pass are kept, in order.
-- Assumes nothing.
use mathlib.Core.Path.{◌≡◌, refl, ap, ap₂, sym, ◌∙◌}
use mathlib.Core.Logic.{◌↔◌}
use mathlib.Core.Bool.{Bool, true, false}
use mathlib.Core.List.{List, [], ◌∷◌}
use mathlib.Core.Option.{Option, none, some}
use Prim.Native.Nat.{ℕ, zero, suc, ◌+◌, ◌-◌, ◌≤◌, ◌<◌}
use native.Mathlib.Omega.{arith}
use native.Mathlib.Decide.{ℕ_discrete}
use Rattle.meaning.specs.Base.{In, first, later, is_some, lowest_from, lowest, kept_from}
use Rattle.meaning.proofs.Lists.{never, absurd_option, in_cons, in_none}

-- THE LOWEST that passes: what `lowest_from` finds, or that there is none
pub data Lowest (f : ℕ → Bool) (i n : ℕ) : Option ℕ → Type 0 where
  found : {p : ℕ} → i ≤ p → p < i + n → f p ≡ true → ((j : ℕ) → i ≤ j → j < p → f j ≡ false) → Lowest f i n (some p)
  missing : ((j : ℕ) → i ≤ j → j < i + n → f j ≡ false) → Lowest f i n none

pub lowest_is : (f : ℕ → Bool) (i n : ℕ) → Lowest f i n (lowest_from f i n)
unfolding lowest_from
lowest_is f i zero = missing (λ j a b. absurd (omega arith))
lowest_is f i (suc n) = go (f i) refl (lowest_is f (suc i) n)
  where
    fails : f i ≡ false → (j : ℕ) → Dec (j ≡ i) → i ≤ j → (suc i ≤ j → f j ≡ false) → f j ≡ false
    fails e j (yes p) a h = rw p e
    fails e j (no p) a h = h (omega arith)

    later_is : f i ≡ false → {o : Option ℕ} → Lowest f (suc i) n o → Lowest f i (suc n) o
    later_is e (found {p = p} a b c d) = found {p = p} (omega arith) (omega arith) c (λ j k l. fails e j (ℕ_discrete j i) k (λ m. d j m l))
    later_is e (missing d) = missing (λ j k l. fails e j (ℕ_discrete j i) k (λ m. d j m (omega arith)))

    go : (b : Bool) → f i ≡ b → Lowest f (suc i) n (lowest_from f (suc i) n) → Lowest f i (suc n) (elim b [ true ↦ some i | false ↦ lowest_from f (suc i) n ])
    go true e r = found {p = i} (omega arith) (omega arith) e (λ j a b. absurd (omega arith))
    go false e r = later_is e r

pub lowest_some : (f : ℕ → Bool) (n : ℕ) → is_some (lowest f n) ≡ true → (i : ℕ) × (i < n) × (f i ≡ true)
lowest_some f n = go (lowest_is f 0 n)
  where
    go : {o : Option ℕ} → Lowest f 0 n o → is_some o ≡ true → (i : ℕ) × (i < n) × (f i ≡ true)
    go (found {p = p} a b c d) e = (p, omega arith, c)
    go (missing d) e = never e

pub some_lowest : (f : ℕ → Bool) (n i : ℕ) → i < n → f i ≡ true → is_some (lowest f n) ≡ true
some_lowest f n i l h = go (lowest_is f 0 n)
  where
    go : {o : Option ℕ} → Lowest f 0 n o → is_some o ≡ true
    go (found a b c d) = refl
    go (missing d) = never (sym (d i (omega arith) (omega arith)) ∙ h)

pub lowest_none : (f : ℕ → Bool) (n : ℕ) → lowest f n ≡ none → (i : ℕ) → i < n → f i ≡ false
lowest_none f n e i l = go (lowest_is f 0 n) e
  where
    go : {o : Option ℕ} → Lowest f 0 n o → o ≡ none → f i ≡ false
    go (found a b c d) e = absurd_option (sym e)
    go (missing d) e = d i (omega arith) (omega arith)

pub none_lowest : (f : ℕ → Bool) (n : ℕ) → ((i : ℕ) → i < n → f i ≡ false) → lowest f n ≡ none
none_lowest f n h = go (lowest_is f 0 n)
  where
    go : {o : Option ℕ} → Lowest f 0 n o → o ≡ none
    go (found {p = p} a b c d) = never (sym (h p (omega arith)) ∙ c)
    go (missing d) = refl

pub lowest_at : (f : ℕ → Bool) (n p : ℕ) → lowest f n ≡ some p → (p < n) × (f p ≡ true)
lowest_at f n p e = go (lowest_is f 0 n) e
  where
    go : {o : Option ℕ} → Lowest f 0 n o → o ≡ some p → (p < n) × (f p ≡ true)
    go (found {p = q} a b c d) e = let r : p ≡ q = cc in rw r (omega arith, c)
    go (missing d) e = absurd_option e

-- DOS. Those kept are those that pass
abbrev Kept : (ℕ → Bool) → ℕ → ℕ → ℕ → Type 0
Kept f i n x = (i ≤ x) × (x < i + n) × (f x ≡ true)

kept_passes : (f : ℕ → Bool) (i n x : ℕ) → In x (kept_from f i n) → Kept f i n x
unfolding kept_from
kept_passes f i zero x h = in_none h
kept_passes f i (suc n) x h = go (f i) refl (λ y k. let r = kept_passes f (suc i) n y k in (omega arith, omega arith, r.2)) h
  where
    go : (b : Bool) → f i ≡ b → ((y : ℕ) → In y (kept_from f (suc i) n) → Kept f i (suc n) y) → In x (elim b [ true ↦ i ∷ kept_from f (suc i) n | false ↦ kept_from f (suc i) n ]) → Kept f i (suc n) x
    go true e r h = in_cons {P = Kept f i (suc n)} (omega arith, omega arith, e) r x h
    go false e r h = r x h

passes_kept : (f : ℕ → Bool) (i n x : ℕ) → Kept f i n x → In x (kept_from f i n)
unfolding kept_from
passes_kept f i zero x h = absurd (omega arith)
passes_kept f i (suc n) x h = go (f i) refl (ℕ_discrete x i) (λ l. passes_kept f (suc i) n x (l, omega arith, h.2))
  where
    go : (b : Bool) → f i ≡ b → Dec (x ≡ i) → (suc i ≤ x → In x (kept_from f (suc i) n)) → In x (elim b [ true ↦ i ∷ kept_from f (suc i) n | false ↦ kept_from f (suc i) n ])
    go true e (yes p) r = rw p first
    go true e (no p) r = later (r (omega arith))
    go false e (yes p) r = never (sym e ∙ ap f (sym p) ∙ h.2)
    go false e (no p) r = r (omega arith)

pub kept_exact : (f : ℕ → Bool) (i n x : ℕ) → In x (kept_from f i n) ↔ ((i ≤ x) × (x < i + n) × (f x ≡ true))
kept_exact f i n x = (kept_passes f i n x, passes_kept f i n x)

-- numbers that rise strictly, all of them above a bound; and from the first on
abbrev pub Above : ℕ → List ℕ → Type 0
Above n [] = Unit {0}
Above n (x ∷ xs) = (n < x) × Above x xs

abbrev pub Increasing : List ℕ → Type 0
Increasing [] = Unit {0}
Increasing (x ∷ xs) = Above x xs

above_less : (xs : List ℕ) (m n : ℕ) → m ≤ n → Above n xs → Above m xs
above_less [] m n l h = tt
above_less (x ∷ xs) m n l h = (omega (arith, h.0), h.1)

kept_above : (f : ℕ → Bool) (i n : ℕ) → Above i (kept_from f (suc i) n)
unfolding kept_from
kept_above f i zero = tt
kept_above f i (suc n) = go (f (suc i)) (kept_above f (suc i) n)
  where
    go : (b : Bool) → Above (suc i) (kept_from f (suc (suc i)) n) → Above i (elim b [ true ↦ suc i ∷ kept_from f (suc (suc i)) n | false ↦ kept_from f (suc (suc i)) n ])
    go true r = (omega arith, r)
    go false r = above_less (kept_from f (suc (suc i)) n) i (suc i) (omega arith) r

pub kept_increasing : (f : ℕ → Bool) (i n : ℕ) → Increasing (kept_from f i n)
unfolding kept_from
kept_increasing f i zero = tt
kept_increasing f i (suc n) = go (f i) (kept_increasing f (suc i) n)
  where
    go : (b : Bool) → Increasing (kept_from f (suc i) n) → Increasing (elim b [ true ↦ i ∷ kept_from f (suc i) n | false ↦ kept_from f (suc i) n ])
    go true r = kept_above f i n
    go false r = r

-- SEEKING: a search that has come to i without finding goes on as from the start
module _ (f : ℕ → Bool) (n : ℕ) where
  pub record Seeking (i : ℕ) : Type 0 where
    pub to : i ≤ n
    pub rest : lowest_from f i (n - i) ≡ lowest f n

  left : (i : ℕ) → i < n → n - i ≡ suc (n - (i + 1))
  left i h = omega arith

  pub seeking_none : Seeking 0
  seeking_none = record { to = omega arith; rest = ap (lowest_from f 0) {x = n - 0} {y = n} (omega arith) }

  pub seeking_more : {i : ℕ} → Seeking i → i < n → f i ≡ false → Seeking (i + 1)
  unfolding lowest_from
  seeking_more {i} s h e =
      let next : suc i ≡ i + 1 = omega arith in
      record { to = omega arith; rest = sym (simp (left i h, e, lowest_from, next)) ∙ s.rest }

  pub seeking_here : {i : ℕ} → Seeking i → i < n → f i ≡ true → some i ≡ lowest f n
  unfolding lowest_from
  seeking_here {i} s h e = sym (simp (left i h, e, lowest_from)) ∙ s.rest

  pub seeking_all : {i : ℕ} → Seeking i → n ≤ i → none ≡ lowest f n
  unfolding lowest_from
  seeking_all {i} s h = let over : n - i ≡ 0 = omega arith in sym (rw (over, lowest_from)) ∙ s.rest

-- tests that agree find the same
pub lowest_same : (f g : ℕ → Bool) (i n : ℕ) → ((x : ℕ) → i ≤ x → x < i + n → f x ≡ g x) → lowest_from f i n ≡ lowest_from g i n
unfolding lowest_from
lowest_same f g i zero h = refl
lowest_same f g i (suc n) h =
    ap₂ (λ (b : Bool) (o : Option ℕ). elim b as (λ _. Option ℕ) [ true ↦ some i | false ↦ o ]) (h i (omega arith) (omega arith))
    (lowest_same f g (suc i) n (λ x l m. h x (omega arith) (omega arith)))
