-- Marking entries and putting them behind those that are to be visited: none, one that has a mark, one that has none, two.
-- Assumes nothing.
use mathlib.Core.Path.{◌≡◌, refl, sym, ap, subst, ◌∙◌}
use mathlib.Core.Logic.{◌⊎◌, inl, inr}
use mathlib.Core.List.{List, [], ◌∷◌}
use Prim.Native.Nat.{ℕ, ◌+◌, ◌≤◌, ◌<◌}
use native.Mathlib.Omega.{arith}
use native.Mathlib.Decide.{ℕ_discrete, dec_lt}
use lib.ListN.{get_or, set, length-set}
use lib.Seq.{get_or-set_same, get_or-set_other}
use Rattle.meaning.specs.Base.{In, first, later}
use Rattle.meaning.proofs.Lists.{in_cons, in_none}
use Rattle.reach.specs.Marks.{Seen, Listed, Room, Grew}
use Rattle.reach.proofs.Marks.{blank_above, blank_less, blank_some}

pub grew_none : (count left : ℕ) (ms : List ℕ) → Grew count ms ms left left []
grew_none count left ms =
    record { long = refl; room = refl; more = omega arith; kept = λ i l h. h; new = λ i l h. inl h; same = λ j l. refl; added = λ j l h. absurd (omega arith); done = λ x. in_none }

-- one that has no mark
module _ {count left e : ℕ} {ms : List ℕ} (low : e < count) (r : Room ms count left) (free : get_or ms e 0 ≡ 0) where
  pub push_room : left < count
  push_room = omega (arith, r.few, blank_some count ms e low free)

  module _ {last : ℕ} (at : last ≡ count + left) where
    unit : (i : ℕ) → i < count → get_or (set (set ms e 1) last e) i 0 ≡ get_or (set ms e 1) i 0
    unit i l = get_or-set_other (set ms e 1) last i e 0 (λ p. omega arith)

    seen_new : Seen (set (set ms e 1) last e) e
    seen_new h = let z : ◌≡◌ {A = ℕ} 1 0 = sym (unit e low ∙ get_or-set_same ms e 1 0 (omega (arith, r.long))) ∙ h in absurd (omega arith)

    last_is : get_or (set (set ms e 1) last e) last 0 ≡ e
    last_is = get_or-set_same (set ms e 1) last e 0 (omega (arith, length-set ms e 1, r.long, push_room))

    behind : (j : ℕ) → j < left → get_or (set (set ms e 1) last e) (count + j) 0 ≡ get_or ms (count + j) 0
    behind j l = get_or-set_other (set ms e 1) last (count + j) e 0 (λ p. omega arith) ∙ get_or-set_other ms e (count + j) 1 0 (λ p. omega arith)

    pub grew_new : Grew count ms (set (set ms e 1) last e) left (left + 1) (e ∷ [])
    grew_new =
        record {
          long = length-set (set ms e 1) last e ∙ length-set ms e 1;
          room = omega (arith, blank_above count (set ms e 1) last e (omega arith), blank_less count ms e low (omega (arith, r.long)) free);
          more = omega arith;
          kept = λ i l h q. keeps i l h (ℕ_discrete i e) q;
          new = λ i l h. news i l h (ℕ_discrete i e);
          same = behind;
          added = λ j l h. let z : count + j ≡ last = omega arith in rw (z, last_is) first;
          done = in_cons seen_new (λ x. in_none);
        }
      where
        other : (i : ℕ) → i < count → (i ≡ e → ⊥) → get_or (set (set ms e 1) last e) i 0 ≡ get_or ms i 0
        other i l d = unit i l ∙ get_or-set_other ms e i 1 0 d

        keeps : (i : ℕ) → i < count → Seen ms i → Dec (i ≡ e) → Seen (set (set ms e 1) last e) i
        keeps i l h (yes p) = subst (Seen (set (set ms e 1) last e)) (sym p) seen_new
        keeps i l h (no d) = λ q. h (sym (other i l d) ∙ q)

        news : (i : ℕ) → i < count → Seen (set (set ms e 1) last e) i → Dec (i ≡ e) → Seen ms i ⊎ (In i (e ∷ []) × Listed count (set (set ms e 1) last e) (left + 1) i)
        news i l h (yes p) = inr (rw p first, record { place = left; low = omega arith; is = ap (λ (k : ℕ). get_or (set (set ms e 1) last e) k 0) (sym at) ∙ last_is ∙ sym p })
        news i l h (no d) = inl (λ q. h (other i l d ∙ q))

-- what is to be visited stays so
pub listed_more : {count left r i : ℕ} {ms ns : List ℕ} → left ≤ r → ((j : ℕ) → j < left → get_or ns (count + j) 0 ≡ get_or ms (count + j) 0) → Listed count ms left i → Listed count ns r i
listed_more l same h = record { place = h.place; low = omega (arith, h.low); is = same h.place h.low ∙ h.is }

-- two
pub grew_two : {count left m r a b : ℕ} {ms ns os : List ℕ} → a < count → Grew count ms ns left m (a ∷ []) → Grew count ns os m r (b ∷ []) → Grew count ms os left r (a ∷ b ∷ [])
grew_two {count} {left} {m} {r} {a} {b} {ms} {ns} {os} low g h =
    record {
      long = h.long ∙ g.long;
      room = h.room ∙ g.room;
      more = omega (arith, g.more, h.more);
      kept = λ i l s. h.kept i l (g.kept i l s);
      new = λ i l s. news i l (h.new i l s);
      same = λ j l. h.same j (omega (arith, g.more)) ∙ g.same j l;
      added = λ j l k. adds j l k (dec_lt j m);
      done = in_cons (h.kept a low (g.done a first)) (in_cons (h.done b first) (λ x. in_none));
    }
  where
    wider : (x : ℕ) → In x (a ∷ []) → In x (a ∷ b ∷ [])
    wider x = in_cons {P = λ y. In y (a ∷ b ∷ [])} first (λ y. in_none) x

    second : (x : ℕ) → In x (b ∷ []) → In x (a ∷ b ∷ [])
    second x i = later i

    news : (i : ℕ) → i < count → Seen ns i ⊎ (In i (b ∷ []) × Listed count os r i) → Seen ms i ⊎ (In i (a ∷ b ∷ []) × Listed count os r i)
    news i l (inr p) = inr (second i p.0, p.1)
    news i l (inl s) = deeper (g.new i l s)
      where
        deeper : Seen ms i ⊎ (In i (a ∷ []) × Listed count ns m i) → Seen ms i ⊎ (In i (a ∷ b ∷ []) × Listed count os r i)
        deeper (inl s) = inl s
        deeper (inr p) = inr (wider i p.0, listed_more h.more h.same p.1)

    adds : (j : ℕ) → left ≤ j → j < r → Dec (j < m) → In (get_or os (count + j) 0) (a ∷ b ∷ [])
    adds j l k (yes p) = wider (get_or os (count + j) 0) (rw (h.same j p) (g.added j l p))
    adds j l k (no p) = second (get_or os (count + j) 0) (h.added j (omega arith) k)

pub grew_by : {count left r : ℕ} {ms ns xs ys : List ℕ} → ys ≡ xs → Grew count ms ns left r xs → Grew count ms ns left r ys
grew_by p g = rw p g
