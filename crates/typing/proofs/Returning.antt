-- A step up by the node that a frame has: the query at it, and one that has nothing to do with an answer.
-- Assumes nothing.
use Rattle.std.specs.Prelude as Std
use Rattle.std.specs.Prelude.{Result}
use mathlib.Core.Logic.{◌⊎◌, inl, inr}
use mathlib.Core.Path.{◌≡◌, refl, sym, subst}
use mathlib.Core.List.{List}
use Prim.Native.Nat.{ℕ, ◌+◌, ◌*◌, ◌≤◌, ◌<◌}
use native.Mathlib.Omega.{arith}
use lib.ListN.{length, get_or}
use Rattle.meaning.specs.Types.{Defs}
use Rattle.meaning.specs.Records.{Node, node_at}
use Rattle.meaning.specs.Queries as Queries
use Rattle.meaning.specs.Queries.{Query, query_at, cond_at}
use Rattle.refusals.specs.declared.Refusal.{Refusal}
use Rattle.scope.specs.declared.Scope.{Scope}
use Rattle.queries.specs.Says.{query_of, Says}
use Rattle.queries.specs.declared.Query as Nodes
use Rattle.typing.specs.declared.Next.{Next}
use Rattle.typing.specs.Walking.{onward, binder, rose, Kept, Framed, Turns}
use Rattle.typing.proofs.Onward.{asked}
use Rattle.grow.specs.declared.Made.{Made}
use Rattle.typing.proofs.Turning.{Done, turn_done, still}

module _ {D : Defs} {ws cs ms st : List ℕ} {code : List Node} {count i at : ℕ} {s : Scope} (b : Framed D ws cs ms code count s st i at) {n : ℕ} (e : n ≡ get_or st (2 * i) 0) where
  pub back_low : n < length code
  back_low = omega (arith, b.low)

  -- a pair keeps an entry that there is
  pub back_kept : {p q : Query} → query_at code n ≡ Queries.pair n p q → get_or st (2 * i + 1) 0 ≤ count
  back_kept a =
      subst (λ (q : Query). Kept count q (get_or st (2 * i + 1) 0)) a (subst (λ (j : ℕ). Kept count (query_at code j) (get_or st (2 * i + 1) 0)) (sym e) b.kept)

  -- the step by the node's own number
  pub back_turns : {us ds st' : List ℕ} {r : Result Next Refusal} {t : Scope} → Turns D code ws us cs ds count s n (get_or st (2 * i + 1) 0) at st st' i r t → Turns D code ws us cs ds count s (get_or st (2 * i) 0) (get_or st (2 * i + 1) 0) at st st' i r t
  back_turns {us} {ds} {st'} {r} {t} h = subst (λ (j : ℕ). Turns D code ws us cs ds count s j (get_or st (2 * i + 1) 0) at st st' i r t) e h

  module _ {c : Nodes.Query} (says : Says n (node_at code n) c) where
    -- the query at the node by what it says
    pub back_asked : (x : Nodes.Query) → c ≡ x → query_at code n ≡ query_of n (λ j. cond_at code j) (λ j. query_at code j) x
    back_asked x p = sym (asked b.lowers back_low says x p)

    -- the step that is done, with what it made
    pub back_done : {us ds : List ℕ} {t : Scope} (x : Nodes.Query) → c ≡ x → (o : Result Made Refusal)
        → Done D ws cs count s (get_or st (2 * i + 1) 0) at i us ds (query_of n (λ j. cond_at code j) (λ j. query_at code j) x) o t
        → Turns D code ws us cs ds count s (get_or st (2 * i) 0) (get_or st (2 * i + 1) 0) at st st i (rose o i) t
    back_done x p o d = back_turns (turn_done D ws cs count s _ at i _ (back_asked x p) o d)

    -- a node without parts
    pub back_leaf : (c ≡ Nodes.TheVariants.Nothing) ⊎ (((t : ℕ) × (c ≡ Nodes.TheVariants.Text t)) ⊎ (((v : ℕ) × (c ≡ Nodes.TheVariants.Variable v)) ⊎ (((v : ℕ) × (w : ℕ) × (c ≡ Nodes.TheVariants.Child v w)) ⊎ ((v : ℕ) × (w : ℕ) × (c ≡ Nodes.TheVariants.Dos v w)))))
        → Turns D code ws ws cs cs count s (get_or st (2 * i) 0) (get_or st (2 * i + 1) 0) at st st i (Std.Ok (Next.Up (record { at = at; count = count }) i)) s
    unfolding onward binder
    back_leaf (inl p) = back_done Nodes.TheVariants.Nothing p (Std.Ok _) (still D ws cs count s _ at i b.begins b.there refl (λ g o. refl))
    back_leaf (inr (inl (t, p))) = back_done (Nodes.TheVariants.Text t) p (Std.Ok _) (still D ws cs count s _ at i b.begins b.there refl (λ g o. refl))
    back_leaf (inr (inr (inl (v, p)))) = back_done (Nodes.TheVariants.Variable v) p (Std.Ok _) (still D ws cs count s _ at i b.begins b.there refl (λ g o. refl))
    back_leaf (inr (inr (inr (inl (v, w, p))))) = back_done (Nodes.TheVariants.Child v w) p (Std.Ok _) (still D ws cs count s _ at i b.begins b.there refl (λ g o. refl))
    back_leaf (inr (inr (inr (inr (v, w, p))))) = back_done (Nodes.TheVariants.Dos v w) p (Std.Ok _) (still D ws cs count s _ at i b.begins b.there refl (λ g o. refl))
