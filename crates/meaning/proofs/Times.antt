-- U.q: the bodies of a source whose number of trees fits q, joined, are in U.q. This is all that the for rule needs of quant and times.
-- Assumes nothing.
use mathlib.Core.Path.{◌≡◌, refl}
use Prim.Native.Nat.{ℕ, ◌≤◌, ◌<◌}
use native.Mathlib.Omega.{arith}
use Rattle.meaning.specs.Forests.{Forest, end, leaf, tree, join, trees, over}
use Rattle.meaning.specs.Types as Types
use Rattle.meaning.specs.Types.{Table, Defs}
use Rattle.meaning.specs.Members.{Fits, Has}
use Rattle.meaning.specs.Shapes.{Class, one, maybe, more, any, none, many}
use Rattle.meaning.specs.Rules.{times}
use Rattle.meaning.proofs.Lists.{never, Grows, grows_refl}
use Rattle.meaning.proofs.Ends.{Ends, gives, Anyhow, ends_map}
use Rattle.meaning.proofs.Forests.{join_end, Each, trees_none}
use Rattle.meaning.proofs.Members.{has, fits_grows}
use Rattle.meaning.proofs.Classes.{Fitting}
use Rattle.meaning.proofs.RuleMembers.{append_there}

module _ (D : Defs) (T : Table) (u : ℕ) (body : Forest → Forest) where
  abbrev Bodies : Forest → Type 0
  Bodies = Each (λ t. Has D T u (body t))

  last_one : {e : ℕ} (f r : Forest) → trees r ≡ 0 → Has D T e f → Has D T e (join f (over body r))
  unfolding over
  last_one f r p h = rw (trees_none r p, over, join_end) h

  over_one : (f : Forest) → trees f ≡ 1 → Bodies f → Has D T u (over body f)
  unfolding trees over Each
  over_one end p h = absurd (omega arith)
  over_one (leaf t r) p h = last_one _ r (omega arith) h.0
  over_one (tree l i r) p h = last_one _ r (omega arith) h.0

  over_star : (f : Forest) → Bodies f → Fits D T (Types.star u) (over body f)
  unfolding over Each
  over_star end h = Fits.stop
  over_star (leaf t r) h = Fits.more h.0.there h.0.fits (over_star r h.1)
  over_star (tree l i r) h = Fits.more h.0.there h.0.fits (over_star r h.1)

  over_opt : (f : Forest) → trees f ≤ 1 → Bodies f → Fits D T (Types.opt u) (over body f)
  unfolding trees over Each
  over_opt end p h = Fits.without
  over_opt (leaf t r) p h = let x = over_one (leaf t r) (omega arith) h in Fits.with x.there x.fits
  over_opt (tree l i r) p h = let x = over_one (tree l i r) (omega arith) h in Fits.with x.there x.fits

  -- one more before a plus that may be empty yet
  before : (f r : Forest) → Has D T u f → (0 < trees r → Fits D T (Types.plus u) (over body r)) → Fits D T (Types.plus u) (join f (over body r))
  unfolding trees
  before f end h k = let x = last_one f end refl h in Fits.once x.there x.fits
  before f (leaf t r) h k = Fits.again h.there h.fits (k (omega arith))
  before f (tree l i r) h k = Fits.again h.there h.fits (k (omega arith))

  over_plus : (f : Forest) → Bodies f → 0 < trees f → Fits D T (Types.plus u) (over body f)
  unfolding trees over Each
  over_plus end h p = absurd (omega arith)
  over_plus (leaf t r) h p = before _ r h.0 (over_plus r h.1)
  over_plus (tree l i r) h p = before _ r h.0 (over_plus r h.1)

-- each body in U gives the join in the result, for any body and any source that fits
pub record Timed (D : Defs) (q : Class) (T : Table) (u : ℕ) (r : Table × ℕ) : Type 0 where
  pub grows : Grows T r.0
  pub bodies : (body : Forest → Forest) (f : Forest) → Fitting q (trees f) → Each (λ t. Has D T u (body t)) f → Has D r.0 r.1 (over body f)

module _ (room n : ℕ) (D : Defs) where
  pub times_joins : (q : Class) (u : ℕ) (T : Table) → Ends (Timed D q T u) Anyhow (times room n u q T)
  unfolding times none many
  times_joins one u T =
      gives (record {
        grows = grows_refl;
        bodies = λ b f k h. let x : ¬ (trees f ≡ 0) = λ p. never (k.empty p) in let y : ¬ (2 ≤ trees f) = λ p. never (k.several p) in over_one D T u b f (omega arith) h;
      })
  times_joins maybe u T =
      ends_map (append_there room n _ _) λ r q. record {
        grows = q.grows;
        bodies = λ b f k h. let y : ¬ (2 ≤ trees f) = λ p. never (k.several p) in has q.there (fits_grows q.grows (over_opt D T u b f (omega arith) h));
      }
  times_joins more u T =
      ends_map (append_there room n _ _) λ r q. record {
        grows = q.grows;
        bodies = λ b f k h. let x : ¬ (trees f ≡ 0) = λ p. never (k.empty p) in has q.there (fits_grows q.grows (over_plus D T u b f h (omega arith)));
      }
  times_joins any u T =
      ends_map (append_there room n _ _) λ r q. record { grows = q.grows; bodies = λ b f k h. has q.there (fits_grows q.grows (over_star D T u b f h)) }
