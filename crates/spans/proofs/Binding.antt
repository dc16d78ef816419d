-- Scopes of stretches: a variable that is bound and unbound again, and what a scope shows when one is bound, when other entries change and when there is
-- none.
-- Assumes nothing.
use mathlib.Core.Path.{◌≡◌, refl, sym, ap, subst, ◌∙◌}
use mathlib.Core.Logic.{◌≢◌}
use mathlib.Core.List.{List, [], ◌∷◌}
use Prim.Native.Nat.{ℕ, ◌*◌, ◌≤◌, ◌<◌}
use native.Mathlib.Omega.{arith}
use native.Mathlib.Decide.{ℕ_discrete}
use borrow.Author.Tests.{eq-eqb, ne_eqb}
use lib.ListN.{take, length-set, length-replicate, get_or-replicate}
use lib.Seq.{get_or-set_same, get_or-set_other, set-set, set-get_or}
use Rattle.meaning.specs.Base.{find}
use Rattle.meaning.specs.Forests.{Forest, forest_words}
use Rattle.meaning.specs.Running.{Env, value_of}
use Rattle.spans.specs.declared.Span.{Span}
use Rattle.spans.specs.declared.Spans.{Spans}
use Rattle.spans.specs.Shows.{nowhere, standing, start, stop, bound, none, part, Shows, Inside}
use Rattle.spans.proofs.Parts.{part_none, part_below}

-- UNBINDING what was bound gives the scope back
pub unbind_bind : (s : Spans) (v : ℕ) (x : Span) → bound (bound s v x) v (standing s v) ≡ s
unbind_bind s v x = ap (λ (l : List Span). record { at = l }) (set-set s.at v x (standing s v) ∙ set-get_or s.at v nowhere)

-- INSIDE
pub inside_more : {s : Spans} {n m : ℕ} → n ≤ m → Inside s n → Inside s m
inside_more h i = record { long = i.long; is = λ v l. ((i.is v l).0, omega (arith, (i.is v l).1)) }

-- what a variable has
value_same : (r : Env) (v w : ℕ) (f : Forest) → w ≡ v → value_of ((v, f) ∷ r) w ≡ f
unfolding find
value_same r v w f p = rw (p, eq-eqb v v refl, find)

value_other : (r : Env) (v w : ℕ) (f : Forest) → w ≢ v → value_of ((v, f) ∷ r) w ≡ value_of r w
unfolding find
value_other r v w f p = rw (find, ne_eqb w v p)

-- A VARIABLE BOUND
module _ {s : Spans} {n : ℕ} (i : Inside s n) (v : ℕ) (low : v < 64) (x : Span) where
  bound_same : (w : ℕ) → w ≡ v → standing (bound s v x) w ≡ x
  bound_same w p = rw p (get_or-set_same s.at v x nowhere (omega (arith, i.long)))

  bound_other : (w : ℕ) → w ≢ v → standing (bound s v x) w ≡ standing s w
  bound_other w p = get_or-set_other s.at v w x nowhere p

  pub inside_bind : x.from ≤ x.to → x.to ≤ n → Inside (bound s v x) n
  inside_bind h k = record { long = length-set s.at v x ∙ i.long; is = λ w l. go w l (ℕ_discrete w v) }
    where
      lies : Span → Type 0
      lies y = (y.from ≤ y.to) × (y.to ≤ n)

      go : (w : ℕ) → w < 64 → Dec (w ≡ v) → lies (standing (bound s v x) w)
      go w l (yes p) = subst lies (sym (bound_same w p)) (h, k)
      go w l (no p) = subst lies (sym (bound_other w p)) (i.is w l)

  pub shows_bind : {held : List ℕ} {r : Env} (f : Forest) → part held x.from x.to ≡ forest_words f → Shows held s r → Shows held (bound s v x) ((v, f) ∷ r)
  shows_bind {held} {r} f e h = record { is = λ w l. go w l (ℕ_discrete w v) }
    where
      words : Span → List ℕ
      words y = part held y.from y.to

      go : (w : ℕ) → w < 64 → Dec (w ≡ v) → words (standing (bound s v x) w) ≡ forest_words (value_of ((v, f) ∷ r) w)
      go w l (yes p) = ap words (bound_same w p) ∙ e ∙ ap forest_words (sym (value_same r v w f p))
      go w l (no p) = ap words (bound_other w p) ∙ h.is w l ∙ ap forest_words (sym (value_other r v w f p))

-- OTHER ENTRIES CHANGED
pub shows_below : {s : Spans} {n : ℕ} {held after : List ℕ} {r : Env} → Inside s n → take (3 * n) after ≡ take (3 * n) held → Shows held s r → Shows after s r
shows_below {s} {n} {held} {after} i k h = record { is = λ v l. part_below held after (start s v) (stop s v) n (i.is v l).0 (i.is v l).1 k ∙ h.is v l }

-- NO VARIABLE
none_standing : (v : ℕ) → v < 64 → standing none v ≡ nowhere
none_standing v l = get_or-replicate 64 v nowhere nowhere l

pub inside_none : (n : ℕ) → Inside none n
inside_none n = record { long = length-replicate 64 nowhere; is = λ v l. subst (λ (y : Span). (y.from ≤ y.to) × (y.to ≤ n)) (sym (none_standing v l)) (omega arith, omega arith) }

pub shows_none : (held : List ℕ) → Shows held none []
unfolding find forest_words
shows_none held = record { is = λ v l. ap (λ (y : Span). part held y.from y.to) (none_standing v l) ∙ part_none held 0 }
