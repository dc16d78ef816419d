-- An entry of a table as the code reads its words: which it is, and its class.
-- Assumes nothing.
use mathlib.Core.Path.{◌≡◌, refl, sym, ap, subst, ◌∙◌}
use mathlib.Core.Bool.{true, false}
use mathlib.Core.Option.{none}
use mathlib.Core.List.{List}
use Prim.Native.Nat.{ℕ, ◌<◌}
use lib.ListN.{length, get_or}
use Rattle.meaning.specs.Base.{At}
use Rattle.meaning.specs.Types as Types
use Rattle.meaning.specs.Types.{Table, Defs, name_of, at}
use Rattle.meaning.specs.Shapes.{shape, quant}
use Rattle.meaning.proofs.Lists.{absurd_option, at_is}
use Rattle.meaning.proofs.Guard.{Goes, part, defn, steps_go, steps_low}
use Rattle.entries.specs.Says.{shown}
use Rattle.entries.specs.declared.Ty.{Ty}
use Rattle.classes.specs.Classes.{code_of, Parts, From, Place}
use Rattle.classes.specs.Climbs.{is_name, Begun}
use Rattle.classes.proofs.Laws.{class_plain, class_name}

-- a type that is no name
abbrev pub NoName : Ty → Type 0
NoName x = (d : ℕ) → x ≡ Ty.Name d → ⊥

pub plain : (x : Ty) → NoName x → name_of (shown x) ≡ none
unfolding name_of
plain Ty.Empty h = refl
plain Ty.Text h = refl
plain (Ty.Element l c) h = refl
plain (Ty.Pair a b) h = refl
plain (Ty.Union a b) h = refl
plain (Ty.Star a) h = refl
plain (Ty.Plus a) h = refl
plain (Ty.Opt a) h = refl
plain (Ty.Name d) h = absurd (h d refl)

pub no_name : (x : Ty) → is_name (shown x) ≡ false → NoName x
no_name x h d p = let z : true ≡ false = sym (ap (λ y. is_name (shown y)) p) ∙ h in cc

module _ {D : Defs} {T : Table} {cs : List ℕ} (P : Place D T cs) {e : ℕ} (low : e < length T) (x : Ty) (q : shown x ≡ at T e) where
  pub plain_class : NoName x → (r : ℕ) → From cs (shown x) r → Parts D T cs (at T e) → r ≡ code_of (quant (shape D T e))
  plain_class p r h = class_plain D T P.formed cs e low (shown x) r q (plain x p) h

  pub name_low : (d : ℕ) → shown x ≡ Types.name d → d < length D
  name_low d p = P.formed.named e d (subst (At T e) (sym q ∙ p) (at_is T e Types.empty low))

  pub name_class : (d : ℕ) → x ≡ Ty.Name d → (r : ℕ) → r ≡ get_or cs (get_or D d 0) 0 → Parts D T cs (at T e) → r ≡ code_of (quant (shape D T e))
  name_class d p r h parts =
      let is : shown x ≡ Types.name d = ap shown p in
      h ∙ class_name D T P.formed cs e low d (sym is ∙ q) parts

  -- what stands in another entry than a name stands before it
  before : NoName x → (i : ℕ) → Goes D (at T e) e i → i < e
  unfolding name_of
  before p i (part h) = h
  before p i (defn d h k) = absurd_option (sym (plain x p) ∙ ap name_of (q ∙ h))

  pub parts_before : NoName x → Begun D T cs e → Parts D T cs (at T e)
  parts_before p b i s = b.sound.right i (steps_low D T P.formed false e i low s) (b.known i (before p i (steps_go D T P.formed false e i low s)))
