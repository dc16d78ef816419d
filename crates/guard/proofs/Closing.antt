-- Closing sets of definitions: joined through the first k of them, a way over those is in the sets, and nothing that no way leads to.
-- Assumes nothing.
use mathlib.Core.Path.{◌≡◌, refl, ap, sym, ◌∙◌, subst}
use mathlib.Core.Logic.{◌⊎◌, inl, inr}
use mathlib.Core.Bool.{Bool, true, false}
use mathlib.Core.List.{List}
use Prim.Native.Nat.{ℕ, ◌+◌, ◌≤◌, ◌<◌}
use native.Mathlib.Omega.{arith}
use native.Mathlib.Decide.{ℕ_discrete}
use lib.Bits.{bit_or}
use lib.ListN.{length, get_or, set, length-set}
use lib.Seq.{get_or-set_same, get_or-set_other}
use Rattle.guard.specs.Sets as Sets
use Rattle.guard.specs.Sets.{bit, bit_at, merged, Joined, Way, Closed}
use Rattle.guard.proofs.Bits.{or_cases, or_left, or_right}

-- ONE SET with another, if it has k
pub merged_both : (s o k : ℕ) → bit s k ≡ true → bit_or s o ≡ merged s o k
unfolding merged
merged_both s o k h = sym (rw (merged, h))

module _ (s o k j : ℕ) where
  merged_old : bit s j ≡ true → bit (merged s o k) j ≡ true
  unfolding merged
  merged_old h = go (bit s k)
    where
      go : (b : Bool) → bit (elim b [ true ↦ bit_or s o | false ↦ s ]) j ≡ true
      go true = or_left s o j h
      go false = h

  merged_new : bit s k ≡ true → bit o j ≡ true → bit (merged s o k) j ≡ true
  merged_new p q = subst (λ n. bit n j ≡ true) (merged_both s o k p) (or_right s o j q)

  merged_cases : bit (merged s o k) j ≡ true → (bit s j ≡ true) ⊎ ((bit s k ≡ true) × (bit o j ≡ true))
  unfolding merged
  merged_cases h = go (bit s k) refl h
    where
      both : bit s k ≡ true → (bit s j ≡ true) ⊎ (bit o j ≡ true) → (bit s j ≡ true) ⊎ ((bit s k ≡ true) × (bit o j ≡ true))
      both e (inl p) = inl p
      both e (inr p) = inr (e, p)

      go : (b : Bool) → bit s k ≡ b → bit (elim b [ true ↦ bit_or s o | false ↦ s ]) j ≡ true → (bit s j ≡ true) ⊎ ((bit s k ≡ true) × (bit o j ≡ true))
      go true e p = both e (or_cases s o j p)
      go false e p = inl p

-- ALL SETS joined through k: those below d are
pub record Joining (used k : ℕ) (before now : List ℕ) (d : ℕ) : Type 0 where
  pub to : d ≤ used
  pub long : length now ≡ length before
  pub done : (i : ℕ) → i < d → get_or now i 0 ≡ merged (get_or before i 0) (get_or before k 0) k
  pub left : (i : ℕ) → d ≤ i → get_or now i 0 ≡ get_or before i 0

module _ {used k d : ℕ} {before now : List ℕ} (f : Joining used k before now d) where
  pub joining_more : {v : ℕ} → used ≤ length before → d < used → v ≡ merged (get_or now d 0) (get_or before k 0) k → Joining used k before (set now d v) (d + 1)
  joining_more {v} room h m =
      record {
        to = omega arith;
        long = length-set now d v ∙ f.long;
        done = λ i l. go i l (ℕ_discrete i d);
        left = λ i l. get_or-set_other now d i v 0 (λ p. omega arith) ∙ f.left i (omega arith);
      }
    where
      go : (i : ℕ) → i < d + 1 → Dec (i ≡ d) → get_or (set now d v) i 0 ≡ merged (get_or before i 0) (get_or before k 0) k
      go i l (yes p) = rw (p, get_or-set_same now d v 0 (omega (arith, f.long))) (m ∙ ap (λ (n : ℕ). merged n (get_or before k 0) k) (f.left d (omega arith)))
      go i l (no p) = get_or-set_other now d i v 0 p ∙ f.done i (omega arith)

  pub joining_all : used ≤ d → Joined used k before now
  joining_all h = record { joined = λ i l. f.done i (omega arith) }

-- THROUGH ALL: closed over the definitions below k
pub record Closing (used : ℕ) (before now : List ℕ) (k : ℕ) : Type 0 where
  pub to : k ≤ used
  pub long : length now ≡ length before
  pub grows : (i j : ℕ) → i < used → bit_at before i j ≡ true → bit_at now i j ≡ true
  pub through : (i m j : ℕ) → i < used → m < k → bit_at now i m ≡ true → bit_at now m j ≡ true → bit_at now i j ≡ true
  pub ways : (i j : ℕ) → i < used → bit_at now i j ≡ true → Way used before i j

pub closing_none : (used : ℕ) (before : List ℕ) → Closing used before before 0
closing_none used before =
    record { to = omega arith; long = refl; grows = λ i j h b. b; through = λ i m j h l p q. absurd (omega arith); ways = λ i j h b. Sets.one b }

module _ {used k : ℕ} {before now after : List ℕ} (c : Closing used before now k) (h : k < used) (joins : Joined used k now after) where
  abbrev R : ℕ → ℕ → Bool
  R = bit_at now

  old : (i j : ℕ) → i < used → R i j ≡ true → bit_at after i j ≡ true
  old i j l b = rw (joins.joined i l) (merged_old (get_or now i 0) (get_or now k 0) k j b)

  new : (i j : ℕ) → i < used → R i k ≡ true → R k j ≡ true → bit_at after i j ≡ true
  new i j l p q = rw (joins.joined i l) (merged_new (get_or now i 0) (get_or now k 0) k j p q)

  cases : (i j : ℕ) → i < used → bit_at after i j ≡ true → (R i j ≡ true) ⊎ ((R i k ≡ true) × (R k j ≡ true))
  cases i j l b = merged_cases (get_or now i 0) (get_or now k 0) k j (rw (joins.joined i l) at b)

  -- k is in a set afterwards only if it was before
  had : (i : ℕ) → (R i k ≡ true) ⊎ ((R i k ≡ true) × (R k k ≡ true)) → R i k ≡ true
  had i (inl p) = p
  had i (inr p) = p.0

  through_more : (i m j : ℕ) → i < used → m < k + 1 → bit_at after i m ≡ true → bit_at after m j ≡ true → bit_at after i j ≡ true
  through_more i m j l n p q = go (ℕ_discrete m k)
    where
      below : m < k → (R i m ≡ true) ⊎ ((R i k ≡ true) × (R k m ≡ true)) → (R m j ≡ true) ⊎ ((R m k ≡ true) × (R k j ≡ true)) → bit_at after i j ≡ true
      below g (inl a) (inl b) = old i j l (c.through i m j l g a b)
      below g (inl a) (inr b) = new i j l (c.through i m k l g a b.0) b.1
      below g (inr a) (inl b) = new i j l a.0 (c.through k m j h g a.1 b)
      below g (inr a) (inr b) = new i j l a.0 b.1

      at_k : R i k ≡ true → (R k j ≡ true) ⊎ ((R k k ≡ true) × (R k j ≡ true)) → bit_at after i j ≡ true
      at_k a (inl b) = new i j l a b
      at_k a (inr b) = new i j l a b.1

      go : Dec (m ≡ k) → bit_at after i j ≡ true
      go (yes e) = at_k (had i (cases i k l (subst (λ (z : ℕ). bit_at after i z ≡ true) e p))) (cases k j h (subst (λ (z : ℕ). bit_at after z j ≡ true) e q))
      go (no e) = let g : m < k = omega arith in below g (cases i m l p) (cases m j (omega arith) q)

  pub closing_more : length after ≡ length now → Closing used before after (k + 1)
  closing_more e =
      record { to = omega arith; long = e ∙ c.long; grows = λ i j l b. old i j l (c.grows i j l b); through = through_more; ways = λ i j l b. go i j l (cases i j l b) }
    where
      go : (i j : ℕ) → i < used → (R i j ≡ true) ⊎ ((R i k ≡ true) × (R k j ≡ true)) → Way used before i j
      go i j l (inl b) = c.ways i j l b
      go i j l (inr b) = Sets.on h (c.ways i k l b.0) (c.ways k j h b.1)

-- the same where as many sets as there are are closed
pub closing_next : {k : ℕ} {before now after : List ℕ} → Closing (length before) before now k → k < length before → Joined (length now) k now after → length after ≡ length now → Closing (length before) before after (k + 1)
closing_next {k} {before} {now} {after} c h joins e = closing_more c h (subst (λ (n : ℕ). Joined n k now after) c.long joins) e

pub closing_all : {used k : ℕ} {before now : List ℕ} → Closing used before now k → used ≤ k → Closed used before now
closing_all {used} {k} {before} {now} c h = record { closed = λ i j l. (c.ways i j l, back i j l) }
  where
    back : (i j : ℕ) → i < used → Way used before i j → bit_at now i j ≡ true
    back i j l (Sets.one b) = c.grows i j l b
    back i j l (Sets.on {m = m} g p q) = c.through i m j l (omega arith) (back i m l p) (back m j g q)
