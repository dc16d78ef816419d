-- What copies leave at the front of a part that was all zeros; the first tree of a forest, and the stretch of a table that a forest takes.
-- Assumes nothing.
use Rattle.std.specs.Prelude.{◌≡◌, Bool, true, false, List, ◌++◌, ℕ, ◌*◌, ◌-◌, ◌≤◌, ◌<◌, eqb, length, Result, Ok, Err}
use Rattle.meaning.specs.Base.{zeros, forest_width}
use Rattle.meaning.specs.Kinds.{forest·text}
use Rattle.meaning.specs.Forests.{Forest, end, leaf, tree, Head, text, label, size, forest_words, below}
use Rattle.spans.specs.Shows.{part}
use Rattle.refusals.specs.declared.Reason.{Reason}
use Rattle.refusals.specs.declared.Refusal.{Refusal}

-- how many entries there are, or a refusal
abbrev pub Made : Type 0
Made = Result ℕ Refusal

-- refusal 21: node n found no room
abbrev pub no_room : ℕ → Refusal
no_room n = record { reason = Reason.WorkFull; place = n }

-- the top of a tree by the first two words of its entry
unfoldable pub head_in : ℕ → ℕ → Head
head_in kind l = elim (eqb kind forest·text) [ true ↦ text | false ↦ label l ]

-- the first tree
unfoldable pub first : Forest → Forest
first end = end
first (leaf t r) = leaf t end
first (tree l i r) = tree l i end

-- how many entries further the next tree to look at begins, one of so many entries being passed: the next of all, or the next at the top
unfoldable pub stride_of : Bool → ℕ → ℕ
stride_of true size = 1
stride_of false size = size

-- a forest and all below it, or the forest alone
unfoldable pub spread : Bool → Forest → Forest
spread true f = below f
spread false f = f

-- A FOREST STANDS at the front of a part of so many words, which is zeros behind it
pub record Filled (room : ℕ) (us : List ℕ) (k : ℕ) (f : Forest) : Type 0 where
  pub count : size f ≡ k
  pub fits : forest_width * k ≤ room
  pub laid : us ≡ forest_words f ++ zeros (room - forest_width * k)

-- IT WAS COPIED there; or it has no room there, which node n tells
pub data Copied (room : ℕ) (us : List ℕ) (n : ℕ) : Made → Forest → Type 0 where
  done : {k : ℕ} {f : Forest} → Filled room us k f → Copied room us n (Ok k) f
  full : {f : Forest} → room < forest_width * size f → Copied room us n (Err (no_room n)) f

-- a table's entries from a on up to e hold a forest
pub record Stretch (held : List ℕ) (a e : ℕ) : Type 0 where
  pub ordered : a ≤ e
  pub inside : forest_width * e ≤ length held
  pub forest : Forest
  pub is : part held a e ≡ forest_words forest

-- the words of trees
pub record Trees (ws : List ℕ) : Type 0 where
  pub forest : Forest
  pub is : ws ≡ forest_words forest

-- the words of one tree
pub record Tree (ws : List ℕ) : Type 0 where
  pub long : forest_width ≤ length ws
  pub forest : Forest
  pub is : ws ≡ forest_words (first forest)
