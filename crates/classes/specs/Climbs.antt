-- Filling the array of classes, where 0 is a class that is not known yet: what an entry waits for, and what each step leaves.
-- Assumes nothing.
use Rattle.std.specs.Prelude.{Option, Some, None, ◌≡◌, ◌≢◌, ◌⊎◌, Bool, true, false, List, ℕ, ◌<◌, length, get_or, set}
use Rattle.meaning.specs.Base.{In}
use Rattle.meaning.specs.Types.{Entry, Table, Defs, at, empty, string, element, pair, union, star, plus, opt, name}
use Rattle.meaning.specs.Reach.{steps_of}
use Rattle.meaning.specs.Shapes.{shape, quant}
use Rattle.classes.specs.Classes.{code_of, Right}

abbrev pub is_name : Entry → Bool
is_name empty = false
is_name string = false
is_name (element l c) = false
is_name (pair a b) = false
is_name (union a b) = false
is_name (star a) = false
is_name (plus a) = false
is_name (opt a) = false
is_name (name d) = true

-- what is lacking among the entries xs: one that has no class; or nothing, and each has one
pub data Lacks (cs xs : List ℕ) : Option ℕ → Type 0 where
  nothing : ((i : ℕ) → In i xs → get_or cs i 0 ≢ 0) → Lacks cs xs None
  part : {x : ℕ} → In x xs → get_or cs x 0 ≡ 0 → Lacks cs xs (Some x)

-- every class that is known is right
pub record Sound (D : Defs) (T : Table) (cs : List ℕ) : Type 0 where
  pub right : (e : ℕ) → e < length T → get_or cs e 0 ≢ 0 → Right D T cs e

-- ONE STEP from entry e to entry x, from the classes cs to ds and the ways back bs to ws: down, or back
pub record Down (D : Defs) (T : Table) (cs ds bs ws : List ℕ) (e x : ℕ) : Type 0 where
  pub part : In x (steps_of false D (at T e))
  pub lacks : get_or cs x 0 ≡ 0
  pub classes : ds ≡ cs
  pub ways : ws ≡ set bs x e

pub record Back (D : Defs) (T : Table) (cs ds bs ws : List ℕ) (e x : ℕ) : Type 0 where
  pub classes : Sound D T cs → ds ≡ set cs e (code_of (quant (shape D T e)))
  pub ways : ws ≡ bs
  pub to : x ≡ get_or bs e 0

abbrev pub Stepped : Defs → Table → List ℕ → List ℕ → List ℕ → List ℕ → ℕ → ℕ → Type 0
Stepped D T cs ds bs ws e x = Down D T cs ds bs ws e x ⊎ Back D T cs ds bs ws e x

-- A WHOLE CLIMB from entry e: it has its class, and none is lost
pub record Climbed (D : Defs) (T : Table) (cs ds : List ℕ) (e : ℕ) : Type 0 where
  pub sound : Sound D T ds
  pub kept : (i : ℕ) → get_or cs i 0 ≢ 0 → get_or ds i 0 ≢ 0
  pub here : get_or ds e 0 ≢ 0

-- all entries before entry e have their classes
pub record Begun (D : Defs) (T : Table) (cs : List ℕ) (e : ℕ) : Type 0 where
  pub sound : Sound D T cs
  pub known : (i : ℕ) → i < e → get_or cs i 0 ≢ 0
