-- The root of a query table; the pass that counts the uses of its nodes; the lowest misused node is the lowest that is not counted once.
-- Assumes nothing.
use mathlib.Core.Path.{◌≡◌, refl, sym, ap, subst, ◌∙◌}
use mathlib.Core.Bool.{Bool, false, not}
use mathlib.Core.List.{List, [], ◌∷◌, ◌++◌}
use Prim.Native.Nat.{ℕ, zero, suc, ◌+◌, ◌*◌, ◌-◌, ◌≤◌, ◌<◌}
use native.Mathlib.Omega.{arith}
use borrow.Author.Tests.{lt-ltb}
use lib.Dec.{eqb}
use lib.ListN.{length, get_or, take, length-append}
use Rattle.std.proofs.lemmas.List.{take_more, take_all}
use Rattle.meaning.specs.Base.{In, count, concat_map, lowest, zeros}
use Rattle.meaning.specs.Records.{Node, node, node_at, is_condition}
use Rattle.meaning.specs.Formed.{CodeRead}
use Rattle.meaning.specs.Checks.{has_root, uses_of, uses, misused}
use Rattle.meaning.proofs.Lists.{at_is}
use Rattle.meaning.proofs.Searches.{lowest_same}
use Rattle.meaning.proofs.Codes.{low_uses}
use Rattle.words.specs.declared.Node as Words
use Rattle.uses.specs.Counts.{Room, Counted, Lowers}
use Rattle.uses.proofs.Fields.{uses_few}
use Rattle.uses.proofs.Counts.{count_most, concat_more, counted_none, counted_both}

-- the nodes are as reading guarantees
pub lowers_read : {room : ℕ} (C : List Node) → room ≤ 1024 → CodeRead room C → Lowers C
lowers_read C m r = record { few = omega (arith, r.few); low = r.nodes }

-- THE ROOT
pub root_none : (C : List Node) {n : ℕ} → n ≡ length C → n ≡ 0 → false ≡ has_root C
root_none [] long p = refl
root_none (x ∷ C) long p = absurd (omega arith)

pub root_last : (C : List Node) {n : ℕ} (w : Words.Node) (b : Bool) → n ≡ length C → (n ≡ 0 → ⊥) → node w.kind w.a w.b w.c ≡ node_at C (n - 1) → b ≡ is_condition w.kind → not b ≡ has_root C
root_last C {n} w b long p r e =
    rw (← long, lt-ltb 0 n (omega arith)) (ap not (e ∙ ap (λ (x : Node). is_condition x.kind) r))

-- ONE NODE MORE
abbrev pub first_nodes : List Node → ℕ → List Node
first_nodes C i = take i C

uses_more : (C : List Node) (i : ℕ) → i < length C → uses (first_nodes C (i + 1)) ≡ uses (first_nodes C i) ++ uses_of (node_at C i)
uses_more C i l = ap uses (take_more C i (node 0 0 0 0) l) ∙ concat_more uses_of (first_nodes C i) (node_at C i)

-- a table of zeros counts nothing
zero_at : (n q : ℕ) → get_or (zeros n) q 0 ≡ 0
unfolding zeros
zero_at zero q = refl
zero_at (suc n) zero = refl
zero_at (suc n) (suc q) = zero_at n q

-- THE PASS: so many nodes' uses have been counted
module _ (C : List Node) (before : List ℕ) where
  pub record Counting (now : List ℕ) (i : ℕ) : Type 0 where
    pub to : i ≤ length C
    pub long : length now ≡ length before
    pub done : Counted before (uses (first_nodes C i)) now
    pub few : length (uses (first_nodes C i)) ≤ 2 * i

  pub counting_none : Counting before 0
  unfolding concat_map
  counting_none = record { to = omega arith; long = refl; done = counted_none before; few = omega arith }

  module _ {now : List ℕ} {i : ℕ} (w : Words.Node) (c : Counting now i) (l : i < length C) (r : node w.kind w.a w.b w.c ≡ node_at C i) where
    abbrev named : List ℕ
    named = uses_of (node w.kind w.a w.b w.c)

    names : named ≡ uses_of (node_at C i)
    names = ap uses_of r

    pub counting_room : Lowers C → length C ≤ length before → before ≡ zeros (length before) → Room now (named)
    counting_room lowers room z =
        record {
          inside = λ q h. omega (arith, c.long, low_uses (lowers.low i (node_at C i) (at_is C i (node 0 0 0 0) l)) q (subst (In q) names h));
          fits = λ q.
              omega (
                arith,
                c.done.is q,
                ap (λ (t : List ℕ). get_or t q 0) z,
                zero_at (length before) q,
                count_most q (uses (first_nodes C i)),
                c.few,
                uses_few w.a w.b w.c w.kind,
                lowers.few,
              );
        }

    pub counting_more : {after : List ℕ} → length after ≡ length now → Counted now (named) after → Counting after (i + 1)
    counting_more {after} long d =
        let more : uses (first_nodes C (i + 1)) ≡ uses (first_nodes C i) ++ named = uses_more C i l ∙ ap (uses (first_nodes C i) ++◌) (sym names) in
        record {
          to = omega arith;
          long = long ∙ c.long;
          done = rw more (counted_both c.done d);
          few = omega (arith, ap length more, length-append (uses (first_nodes C i)) (named), c.few, uses_few w.a w.b w.c w.kind);
        }

  pub counting_all : {now : List ℕ} {i : ℕ} → Counting now i → length C ≤ i → Counted before (uses C) now
  counting_all {now} {i} c l = subst (λ (D : List Node). Counted before (uses D) now) (take_all i C l) c.done

-- THE SEARCH in what was counted
pub misuse_found : (n m : ℕ) (C : List Node) {before now : List ℕ} → before ≡ zeros n → Counted before (uses C) now → lowest (λ q. not (eqb (get_or now q 0) 1)) m ≡ lowest (misused C) m
misuse_found n m C {before} {now} z d =
    lowest_same (λ q. not (eqb (get_or now q 0) 1)) (misused C) 0 m (λ q _ _. ap (λ (k : ℕ). not (eqb k 1)) (counts q))
  where
    counts : (q : ℕ) → get_or now q 0 ≡ count q (uses C)
    counts q = omega (arith, d.is q, ap (λ (t : List ℕ). get_or t q 0) z, zero_at n q)

-- a table that was cleared is all zeros
pub all_zeros : (n : ℕ) {t : List ℕ} → t ≡ zeros n → length t ≡ n → t ≡ zeros (length t)
all_zeros n e l = rw l e
