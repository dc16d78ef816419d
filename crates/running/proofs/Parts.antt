-- The parts of a node that is begun: what they made, how much is left when one of them comes, and that it comes.
-- Assumes nothing.
use Rattle.std.specs.Prelude as Std
use mathlib.Core.Path.{◌≡◌, sym, ap, subst, ◌∙◌}
use mathlib.Core.List.{List, ◌∷◌, ◌++◌}
use Prim.Native.Nat.{ℕ, suc, ◌+◌, ◌*◌, ◌-◌, ◌≤◌, ◌<◌}
use native.Mathlib.Omega.{arith}
use native.Mathlib.Nat.{mul-suc, mul-le-mul_left}
use Rattle.meaning.specs.Records.{Node}
use Rattle.meaning.specs.Queries as Queries
use Rattle.meaning.specs.Queries.{Query, query_at}
use Rattle.spans.specs.declared.Spans.{Spans}
use Rattle.running.specs.declared.Frame.{Frame}
use Rattle.running.specs.Evaluates.{Step, Begins, Rounds}
use Rattle.running.specs.Machine.{Turn, sunk, Spot, spot, Given, Answers, Gave, Half, Within, Steps, done, begun, weight, still, half}

-- the same answer under other names
pub answers_as : {p q : Query} {x : Spot} {t : Step} {after us : List ℕ} → p ≡ q → Answers p x t after us → Answers q x t after us
answers_as {x = x} {t} {after} {us} e a = subst (λ (r : Query). Answers r x t after us) e a

pub answers_at : {q : Query} {y z : Spot} {t : Step} {after us : List ℕ} → y ≡ z → Answers q y t after us → Answers q z t after us
answers_at {q} {t = t} {after} {us} e a = subst (λ (w : Spot). Answers q w t after us) e a

pub answers_in : {q : Query} {x : Spot} {t : Step} {after us vs : List ℕ} → us ≡ vs → Answers q x t after us → Answers q x t after vs
answers_in {q} {x} {t} {after} e a = subst (λ (ws : List ℕ). Answers q x t after ws) e a

-- what a node made with its own scope
pub answers_own : {q : Query} {x : Spot} {k : ℕ} {s : Spans} {after us : List ℕ} → Answers q x (record { made = Std.Ok k; scope = s }) after us → Gave q x k after us
answers_own {q} {x} {k} {after = after} {us} a = subst (λ (t : Spans). Answers q x (record { made = Std.Ok k; scope = t }) after us) a.is.kept a

pub less_or : {n m : ℕ} → n < m → n ≤ m
less_or h = omega arith

-- HOW MUCH is left of a node with two parts
pub half_at_first : {n : Std.Option ℕ} (a : ℕ) (b : ℕ → ℕ) → n ≡ Std.None → half n a b ≡ a
half_at_first a b e = ap (λ (m : Std.Option ℕ). half m a b) e

pub half_at_second : {n : Std.Option ℕ} (a : ℕ) (b : ℕ → ℕ) (k : ℕ) → n ≡ Std.Some k → half n a b ≡ b k
half_at_second a b k e = ap (λ (m : Std.Option ℕ). half m a b) e

pub half_make : {n : Std.Option ℕ} (A : Type 0) (B : ℕ → Type 0) (k : ℕ) → n ≡ Std.Some k → B k → Half n A B
half_make A B k e h = subst (λ (m : Std.Option ℕ). Half m A B) (sym e) h

module _ (n v : ℕ) (p q : Query) (f g : Frame) (k : ℕ) (now : g.first ≡ Std.Some k) where
  pub pair_less : f.first ≡ Std.None → still (Queries.pair n p q) g + weight q < still (Queries.pair n p q) f
  unfolding still
  pair_less e = omega (arith, half_at_first (2 + weight q) (λ i. 1) e, half_at_second (2 + weight q) (λ i. 1) k now)

  pub let_less : f.first ≡ Std.None → still (Queries.let_in n v p q) g + weight q < still (Queries.let_in n v p q) f
  unfolding still
  let_less e = omega (arith, half_at_first (2 + weight q) (λ i. 1) e, half_at_second (2 + weight q) (λ i. 1) k now)

  -- a for: once its source is there, and by a tree less
  pub for_rounds : (h : Frame) → h.first ≡ Std.Some k → still (Queries.for n v p q) h ≡ 1 + (weight q + 1) * (h.base + k - h.next)
  unfolding still
  for_rounds h e = half_at_second (2 + (weight q + 1) * 8192) (λ i. 1 + (weight q + 1) * (h.base + i - h.next)) k e

  pub for_source : f.first ≡ Std.None → g.base + k - g.next ≤ 8192 → still (Queries.for n v p q) g < still (Queries.for n v p q) f
  unfolding still
  for_source e l =
      omega (arith, for_rounds g now, half_at_first (2 + (weight q + 1) * 8192) (λ i. 1 + (weight q + 1) * (f.base + i - f.next)) e, mul-le-mul_left {m = g.base + k - g.next} {n = 8192} (weight q + 1) l)

  pub for_less : f.first ≡ Std.Some k → suc (g.base + k - g.next) ≤ f.base + k - f.next → still (Queries.for n v p q) g + weight q < still (Queries.for n v p q) f
  for_less e l =
      omega (arith, for_rounds g now, for_rounds f e, mul-suc (weight q + 1) (g.base + k - g.next), mul-le-mul_left {m = suc (g.base + k - g.next)} {n = f.base + k - f.next} (weight q + 1) l)

-- rounds under other names
pub rounds_as : {v : ℕ} {q : Query} {s t : Spans} {held start after now rest : List ℕ} {at a e i j k : ℕ} → now ≡ after → t ≡ s → j ≡ i → Rounds v q s held start at a e after rest s i k → Rounds v q s held start at a e now rest t j k
rounds_as {v} {q} {s} {t} {held} {start} {after} {now} {rest} {at} {a} {e} {i} {j} {k} p o l r =
    subst (λ (ws : List ℕ). Rounds v q s held start at a e ws rest t j k) (sym p)
    (subst (λ (u : Spans). Rounds v q s held start at a e after rest u j k) (sym o)
    (subst (λ (n : ℕ). Rounds v q s held start at a e after rest s n k) (sym l) r))

-- more to do than is said
pub steps_more : {code : List Node} {most more : ℕ} {x : Spot} {after us : List ℕ} {st st' : List Frame} {t : Turn} → most ≤ more → Steps code most x after us st st' t → Steps code more x after us st st' t
steps_more h (done s a e r) = done s a e r
steps_more h (begun f pre y i l a u e r) = begun f pre y i (omega arith) a u e r

-- A PART COMES
pub turn_as : {i a b : ℕ} {s u : Spans} {t : Turn} → t ≡ sunk i a s → a ≡ b → s ≡ u → t ≡ sunk i b u
turn_as {i} {b = b} {s} e p q = e ∙ ap (λ (j : ℕ). sunk i j s) p ∙ ap (λ (z : Spans). sunk i b z) q

module _ {code : List Node} {x : Spot} (given : Given code x) where
  pub comes : (most : ℕ) (g : Frame) (pre ws : List ℕ) (i at : ℕ) (s : Spans) (held : List ℕ) → g.node ≡ x.node → g.base ≡ x.at → i < x.node → Begins s held ws at → Within code (query_at code x.node) g x pre (spot i at s held ws)
      → still (query_at code x.node) g + weight (query_at code i) < most
      → {after us : List ℕ} {st st' : List Frame} {t : Turn} → after ≡ held → us ≡ pre ++ ws → st' ≡ g ∷ st → t ≡ sunk i at s → Steps code most x after us st st' t
  comes most g pre ws i at s held n b low begins w less a u e t =
      begun g pre (spot i at s held ws) (record { node = n; base = b; low = low; given = record { lowers = given.lowers; low = omega (arith, given.low); begins = begins }; within = w }) less a u e t
