-- Refusal 10 passed is guardedness, both ways. In a formed table an entry's rank, how many definitions it reaches without entering an element, falls
-- from a name to its definition; any other part has a lower number and no higher rank. So each step without entering an element lowers `height`.
-- Assumes nothing.
use mathlib.Core.Path.{◌≡◌, refl, ap, sym, ◌∙◌, subst}
use mathlib.Core.Logic.{◌⊎◌, inl, inr}
use mathlib.Core.Bool.{Bool, true, false}
use Prim.Native.Nat.{ℕ, zero, suc, ◌+◌, ◌*◌, ◌≤◌, ◌<◌}
use native.Mathlib.Omega.{arith}
use native.Mathlib.Decide.{ℕ_discrete}
use lib.ListN.{length, get_or}
use Rattle.meaning.specs.Base.{At, In, first, later}
use Rattle.meaning.specs.Types as Types
use Rattle.meaning.specs.Types.{Entry, Table, Defs, at}
use Rattle.meaning.specs.Reach.{steps_of, Path, here, step, reaches_name, loops}
use Rattle.meaning.specs.Formed as Formed
use Rattle.meaning.specs.Formed.{Lower, Guarded, Formed}
use Rattle.meaning.proofs.Lists.{never, at_low, at_get_or, at_is, in_none}
use Rattle.meaning.proofs.Reach.{reaches_exact, loops_exact}

-- a test that cannot hold fails
fails : (b : Bool) → (b ≡ true → ⊥) → b ≡ false
fails true h = absurd (h refl)
fails false h = refl

module _ (D : Defs) (T : Table) (defined : (d c : ℕ) → At D d c → c < length T) where
  pub unlooped_guarded : ((d : ℕ) → d < length D → loops D T d ≡ false) → Guarded D T
  unlooped_guarded u d c i h p a =
      let e = at_get_or h 0 in
      never (sym (u d (at_low h)) ∙ (loops_exact D T d (rw e (defined d c h))).1 (i, rw e p, a))

  pub guarded_unlooped : Guarded D T → (d : ℕ) → d < length D → loops D T d ≡ false
  guarded_unlooped g d l =
      let h = at_is D d 0 l in
      fails (loops D T d) (λ e. let r = (loops_exact D T d (defined d (get_or D d 0) h)).0 e in g d (get_or D d 0) r.0 h r.1 r.2)

-- how many numbers below n pass a test
plus_if : Bool → ℕ → ℕ
plus_if true n = suc n
plus_if false n = n

pub count_below : (ℕ → Bool) → ℕ → ℕ
count_below f zero = 0
count_below f (suc n) = plus_if (f n) (count_below f n)

plus_if_le : (b c : Bool) (m n : ℕ) → (b ≡ true → c ≡ true) → m ≤ n → plus_if b m ≤ plus_if c n
unfolding plus_if
plus_if_le true true m n h l = omega arith
plus_if_le true false m n h l = never (h refl)
plus_if_le false true m n h l = omega arith
plus_if_le false false m n h l = l

plus_if_lt : (b c : Bool) (m n : ℕ) → (b ≡ true → c ≡ true) → m < n → plus_if b m < plus_if c n
unfolding plus_if
plus_if_lt true true m n h l = omega arith
plus_if_lt true false m n h l = never (h refl)
plus_if_lt false true m n h l = omega arith
plus_if_lt false false m n h l = l

pub count_most : (f : ℕ → Bool) (n : ℕ) → count_below f n ≤ n
unfolding count_below plus_if
count_most f zero = omega arith
count_most f (suc n) = go (f n) (count_most f n)
  where
    go : (b : Bool) → count_below f n ≤ n → plus_if b (count_below f n) ≤ suc n
    go true h = omega arith
    go false h = omega arith

module _ (f g : ℕ → Bool) (more : (d : ℕ) → f d ≡ true → g d ≡ true) where
  count_le : (n : ℕ) → count_below f n ≤ count_below g n
  unfolding count_below
  count_le zero = omega arith
  count_le (suc n) = plus_if_le (f n) (g n) (count_below f n) (count_below g n) (more n) (count_le n)

  -- and one that only the second counts
  pub count_lt : (n d : ℕ) → d < n → f d ≡ false → g d ≡ true → count_below f n < count_below g n
  unfolding count_below plus_if
  count_lt zero d l p q = absurd (omega arith)
  count_lt (suc n) d l p q = go (ℕ_discrete d n) (λ k. count_lt n d k p q)
    where
      go : Dec (d ≡ n) → (d < n → count_below f n < count_below g n) → plus_if (f n) (count_below f n) < plus_if (g n) (count_below g n)
      go (yes e) r = rw (ap f (sym e) ∙ p, ap g (sym e) ∙ q, plus_if) (omega (arith, count_le n))
      go (no e) r = plus_if_lt (f n) (g n) (count_below f n) (count_below g n) (more n) (r (omega arith))

-- how many definitions an entry reaches a name of without entering an element
pub rank : Defs → Table → ℕ → ℕ
rank D T e = count_below (reaches_name D T e) (length D)

abbrev pub height : Defs → Table → ℕ → ℕ
height D T e = rank D T e * 4096 + e

pub rank_most : (D : Defs) (T : Table) (e : ℕ) → rank D T e ≤ length D
unfolding rank
rank_most D T e = count_most (reaches_name D T e) (length D)

pub path_trans : {enter : Bool} {D : Defs} {T : Table} {a b c : ℕ} → Path enter D T a b → Path enter D T b c → Path enter D T a c
path_trans p here = p
path_trans p (step q a s) = step (path_trans p q) a s

-- where a step leads from the entry y with the number n: to a lower number, or to the definition that y names
pub data Goes (D : Defs) (y : Entry) (n x : ℕ) : Type 0 where
  part : x < n → Goes D y n x
  defn : (d : ℕ) → y ≡ Types.name d → x ≡ get_or D d 0 → Goes D y n x

pub lower_goes : (enter : Bool) (D : Defs) {n : ℕ} {y : Entry} (x : ℕ) → Lower n y → In x (steps_of enter D y) → Goes D y n x
unfolding steps_of
lower_goes true D x (Formed.element a b h) first = part h
lower_goes true D x (Formed.element a b h) (later i) = in_none i
lower_goes false D x (Formed.element a b h) i = in_none i
lower_goes enter D x (Formed.pair h k) first = part h
lower_goes enter D x (Formed.pair h k) (later first) = part k
lower_goes enter D x (Formed.pair h k) (later (later i)) = in_none i
lower_goes enter D x (Formed.union h k) first = part h
lower_goes enter D x (Formed.union h k) (later first) = part k
lower_goes enter D x (Formed.union h k) (later (later i)) = in_none i
lower_goes enter D x (Formed.star h) first = part h
lower_goes enter D x (Formed.star h) (later i) = in_none i
lower_goes enter D x (Formed.plus h) first = part h
lower_goes enter D x (Formed.plus h) (later i) = in_none i
lower_goes enter D x (Formed.opt h) first = part h
lower_goes enter D x (Formed.opt h) (later i) = in_none i
lower_goes enter D x (Formed.name {d = d} h) first = defn d refl refl
lower_goes enter D x (Formed.name h) (later i) = in_none i

module _ (D : Defs) (T : Table) (F : Formed D T) where
  pub steps_go : (enter : Bool) (e x : ℕ) → e < length T → In x (steps_of enter D (at T e)) → Goes D (at T e) e x
  unfolding steps_of
  steps_go enter zero x l s = in_none (rw (at_get_or F.zeroth Types.empty) at s)
  steps_go enter (suc zero) x l s = in_none (rw (at_get_or F.first Types.empty) at s)
  steps_go enter (suc (suc e)) x l s = lower_goes enter D x (F.lower (suc (suc e)) (at T (suc (suc e))) (omega arith) (at_is T (suc (suc e)) Types.empty l)) s

  -- the definition that a name names
  pub name_at : (e d : ℕ) → At T e (Types.name d) → At D d (get_or D d 0)
  name_at e d h = at_is D d 0 (F.named e d h)

  name_here : (e d : ℕ) → e < length T → at T e ≡ Types.name d → At T e (Types.name d)
  name_here e d l p = subst (At T e) p (at_is T e Types.empty l)

  pub steps_low : (enter : Bool) (e x : ℕ) → e < length T → In x (steps_of enter D (at T e)) → x < length T
  steps_low enter e x l s = go (steps_go enter e x l s)
    where
      go : Goes D (at T e) e x → x < length T
      go (part h) = omega arith
      go (defn d p q) = rw q (F.defined d (get_or D d 0) (name_at e d (name_here e d l p)))

  -- what a part reaches, the whole reaches
  reaches_part : (e x : ℕ) → e < length T → In x (steps_of false D (at T e)) → (d : ℕ) → reaches_name D T x d ≡ true → reaches_name D T e d ≡ true
  reaches_part e x l s d h =
      let r = (reaches_exact D T x d (steps_low false e x l s)).0 h in
      (reaches_exact D T e d l).1 (r.0, path_trans (step here (at_is T e Types.empty l) s) r.1, r.2)

  pub rank_falls : (e x : ℕ) → e < length T → In x (steps_of false D (at T e)) → (rank D T x < rank D T e) ⊎ ((rank D T x ≤ rank D T e) × (x < e))
  unfolding rank
  rank_falls e x l s = go (steps_go false e x l s)
    where
      go : Goes D (at T e) e x → (rank D T x < rank D T e) ⊎ ((rank D T x ≤ rank D T e) × (x < e))
      go (part h) = inr (count_le (reaches_name D T x) (reaches_name D T e) (reaches_part e x l s) (length D), h)
      go (defn d p q) =
          let n = name_here e d l p in
          let c = name_at e d n in
          inl (count_lt (reaches_name D T x) (reaches_name D T e) (reaches_part e x l s) (length D) d (F.named e d n)
          (fails (reaches_name D T x d) (λ h. let r = (reaches_exact D T x d (steps_low false e x l s)).0 h in F.guarded d x r.0 (rw q c) r.1 r.2))
          ((reaches_exact D T e d l).1 (e, here, n)))

  pub height_falls : (e x : ℕ) → e < length T → In x (steps_of false D (at T e)) → height D T x < height D T e
  height_falls e x l s = go (rank_falls e x l s)
    where
      go : (rank D T x < rank D T e) ⊎ ((rank D T x ≤ rank D T e) × (x < e)) → height D T x < height D T e
      go (inl h) = omega (arith, steps_low false e x l s, F.few)
      go (inr h) = omega arith

  -- strictly below `deepest`
  pub height_most : (e : ℕ) → e < length T → height D T e < 266240
  height_most e l = omega (arith, rank_most D T e, F.few, F.few_defs)
