-- Conditions told of the stretches that a scope has: those of variables, and those that join others.
-- Assumes nothing.
use mathlib.Core.Path.{◌≡◌, refl, sym, ap, subst, ◌∙◌}
use mathlib.Core.Bool.{Bool, true, false, not, ◌||◌}
use mathlib.Core.List.{List}
use Prim.Native.Nat.{ℕ, ◌*◌, ◌-◌, ◌≤◌, ◌<◌}
use native.Mathlib.Omega.{arith}
use native.Mathlib.Decide.{ℕ_discrete}
use lib.Dec.{eqb}
use lib.ListN.{length}
use borrow.Author.Tests.{eq-eqb, ne_eqb}
use Rattle.meaning.specs.Forests.{size, forest_words, same_words}
use Rattle.meaning.specs.Records.{Node, node_at}
use Rattle.meaning.specs.Queries as Queries
use Rattle.meaning.specs.Queries.{cond_at}
use Rattle.meaning.specs.Running.{Env, value_of, holds}
use Rattle.meaning.proofs.Forests.{length_words}
use Rattle.uses.specs.Counts.{Lowers}
use Rattle.conds.specs.Says.{cond_of, Says}
use Rattle.conds.specs.declared.Cond.{Cond}
use Rattle.conds.proofs.Going.{cond_is}
use Rattle.spans.specs.declared.Span.{Span}
use Rattle.spans.specs.declared.Spans.{Spans}
use Rattle.spans.specs.Shows.{standing, start, stop, part, Shows}
use Rattle.spans.proofs.Parts.{part_length}
use Rattle.truths.specs.Tells.{Places, Tells}

module _ {s : Spans} {held : List ℕ} (h : Places s held) where
  -- A VARIABLE, under the name that the code has for it
  module _ {v i : ℕ} (low : v ≤ 63) (p : i ≡ v) where
    pub placed : (start s i ≤ stop s i) × (3 * stop s i ≤ length held)
    placed = h.is i (omega arith)

    pub shown : {env : Env} → Shows held s env → part held (start s i) (stop s i) ≡ forest_words (value_of env v)
    shown {env} z = z.is i (omega arith) ∙ ap (λ (j : ℕ). forest_words (value_of env j)) p

    pub tells_empty : {x : Span} → x ≡ standing s i → Tells s held (eqb x.from x.to) (Queries.empty 0 v)
    unfolding holds
    tells_empty q = subst (λ (y : Span). Tells s held (eqb y.from y.to) (Queries.empty 0 v)) (sym q) (record { is = λ env z. go env z (ℕ_discrete (start s i) (stop s i)) })
      where
        sized : (env : Env) → Shows held s env → 3 * size (value_of env v) ≡ 3 * stop s i - 3 * start s i
        sized env z = sym (length_words (value_of env v)) ∙ sym (ap length (shown z)) ∙ part_length held (start s i) (stop s i) placed.1

        go : (env : Env) → Shows held s env → Dec (start s i ≡ stop s i) → eqb (start s i) (stop s i) ≡ eqb (size (value_of env v)) 0
        go env z (yes e) = eq-eqb _ _ e ∙ sym (eq-eqb (size (value_of env v)) 0 (omega (arith, sized env z)))
        go env z (no e) = ne_eqb _ _ e ∙ sym (ne_eqb (size (value_of env v)) 0 (λ d. e (omega (arith, sized env z, placed.0))))

    -- its words, in every environment that the scope shows
    words_are : {x : Span} {ws : List ℕ} → x ≡ standing s i → ws ≡ part held x.from x.to → (env : Env) → Shows held s env → ws ≡ forest_words (value_of env v)
    words_are q l env z = l ∙ ap (λ (y : Span). part held y.from y.to) q ∙ shown z

  -- TWO
  pub tells_equal : {v w i j : ℕ} {x y : Span} {ws us : List ℕ} {r : Bool} → v ≤ 63 → i ≡ v → x ≡ standing s i → ws ≡ part held x.from x.to → w ≤ 63 → j ≡ w → y ≡ standing s j → us ≡ part held y.from y.to → r ≡ same_words ws us → Tells s held r (Queries.equal 0 v w)
  unfolding holds
  tells_equal {v} {ws = ws} {us} lv p x a lw q y b e =
      record { is = λ env z. e ∙ ap (λ (l : List ℕ). same_words l us) (words_are lv p x a env z) ∙ ap (λ (l : List ℕ). same_words (forest_words (value_of env v)) l) (words_are lw q y b env z) }

-- A NODE by what it says
module _ {C : List Node} (lowers : Lowers C) {n : ℕ} (low : n < length C) {c : Cond} (says : Says n (node_at C n) c) {s : Spans} {held : List ℕ} where
  told : (d : Cond) → c ≡ d → {r : Bool} → ((env : Env) → Shows held s env → r ≡ holds (cond_of n (cond_at C) d) env) → Tells s held r (cond_at C n)
  told d e h = record { is = λ env z. h env z ∙ sym (ap (λ (x : Queries.Cond). holds x env) (cond_is C lowers low says ∙ ap (cond_of n (cond_at C)) e)) }

  pub told_true : c ≡ Cond.True → Tells s held true (cond_at C n)
  unfolding holds
  told_true e = told Cond.True e (λ env z. refl)

  pub told_false : c ≡ Cond.False → Tells s held false (cond_at C n)
  unfolding holds
  told_false e = told Cond.False e (λ env z. refl)

  pub told_equal : {v w : ℕ} {r : Bool} → c ≡ Cond.Equal v w → Tells s held r (Queries.equal 0 v w) → Tells s held r (cond_at C n)
  unfolding holds
  told_equal {v} {w} e h = told (Cond.Equal v w) e h.is

  pub told_empty : {v : ℕ} {r : Bool} → c ≡ Cond.Empty v → Tells s held r (Queries.empty 0 v) → Tells s held r (cond_at C n)
  unfolding holds
  told_empty {v} e h = told (Cond.Empty v) e h.is

  -- one that names others, under the names that the code has for them
  module _ {p i : ℕ} (at : i ≡ p) {r : Bool} (h : Tells s held r (cond_at C i)) where
    part_is : (env : Env) → Shows held s env → r ≡ holds (cond_at C p) env
    part_is env z = h.is env z ∙ ap (λ (j : ℕ). holds (cond_at C j) env) at

    pub told_not : c ≡ Cond.Not p → Tells s held (not r) (cond_at C n)
    unfolding holds
    told_not e = told (Cond.Not p) e (λ env z. ap not (part_is env z))

    pub told_left : {q : ℕ} → c ≡ Cond.Or p q → r ≡ true → Tells s held r (cond_at C n)
    unfolding holds
    told_left {q} e y = told (Cond.Or p q) e (λ env z. y ∙ ap (λ (b : Bool). b || holds (cond_at C q) env) (sym y ∙ part_is env z))

    pub told_right : {q j : ℕ} {d : Bool} → c ≡ Cond.Or p q → r ≡ false → j ≡ q → Tells s held d (cond_at C j) → Tells s held d (cond_at C n)
    unfolding holds
    told_right {q} {j} e y k g =
        told (Cond.Or p q) e (λ env z. g.is env z ∙ ap (λ (x : ℕ). holds (cond_at C x) env) k ∙ ap (λ (b : Bool). b || holds (cond_at C q) env) (sym y ∙ part_is env z))
