-- A name that `read` reads; that what stands in an entry stands in the table; and the entries that may be appended.
-- Assumes nothing.
use mathlib.Core.Path.{◌≡◌, refl, ap, sym, ◌∙◌}
use mathlib.Core.Bool.{Bool, true}
use mathlib.Core.List.{List, [], ◌∷◌}
use Prim.Native.Nat.{ℕ, ◌<◌, ◌≤◌}
use lib.ListN.{length, get_or}
use Rattle.meaning.specs.Base.{At, In, first, zeros}
use Rattle.meaning.specs.Types as Types
use Rattle.meaning.specs.Types.{Entry, Table, Defs, kind_of, fields_of, entry_words, entry_of, name_of, at}
use Rattle.meaning.specs.Reach.{steps_of}
use Rattle.meaning.specs.Formed as Formed
use Rattle.meaning.specs.Formed.{Formed}
use Rattle.meaning.proofs.Lists.{at_low, at_get_or}
use Rattle.meaning.proofs.Guard.{steps_low, name_at}
use Rattle.words.specs.declared.Entry as Words
use Rattle.words.proofs.Tables.{entry_made}
use Rattle.words.proofs.Entries.{kind_name}
use Rattle.grow.specs.Grow.{Shows, New}

-- A NAME that was read
pub shows_name : {T : Table} {e : ℕ} {w : Words.Entry} → Shows T e w → w.kind ≡ 9 → At T e (Types.name w.a)
shows_name {w = w} h p = rw (kind_name w.a w.b p) at h.is

-- WHAT STANDS IN AN ENTRY
module _ {D : Defs} {T : Table} (F : Formed D T) {e : ℕ} where
  part_low : (enter : Bool) {x : Entry} (i : ℕ) → At T e x → In i (steps_of enter D x) → i < length T
  part_low enter i h s = steps_low D T F enter e i (at_low h) (rw (at_get_or h Types.empty) s)

  pub element_low : {l c : ℕ} → At T e (Types.element l c) → c < length T
  unfolding steps_of
  element_low {c = c} h = part_low true c h first

  -- a name's definition is there, and stands in the table
  pub name_low : {d : ℕ} → At T e (Types.name d) → (d < length D) × At D d (get_or D d 0) × (get_or D d 0 < length T)
  name_low {d} h = let c = name_at D T F e d h in (F.named e d h, c, F.defined d (get_or D d 0) c)

-- THE ENTRIES THAT MAY BE APPENDED
module _ {n : ℕ} where
  pub new_element : {l c : ℕ} → 1 ≤ l → l ≤ 65534 → c < n → New n 3 l c (Types.element l c)
  unfolding kind_of fields_of zeros name_of
  new_element h m k = record { words = refl; low = Formed.element h m k; plain = refl }

  pub new_pair : {a b : ℕ} → a < n → b < n → New n 4 a b (Types.pair a b)
  unfolding kind_of fields_of zeros name_of
  new_pair h k = record { words = refl; low = Formed.pair h k; plain = refl }

  pub new_union : {a b : ℕ} → a < n → b < n → New n 5 a b (Types.union a b)
  unfolding kind_of fields_of zeros name_of
  new_union h k = record { words = refl; low = Formed.union h k; plain = refl }

  pub new_star : {a : ℕ} → a < n → New n 6 a 0 (Types.star a)
  unfolding kind_of fields_of zeros name_of
  new_star h = record { words = refl; low = Formed.star h; plain = refl }

  pub new_plus : {a : ℕ} → a < n → New n 7 a 0 (Types.plus a)
  unfolding kind_of fields_of zeros name_of
  new_plus h = record { words = refl; low = Formed.plus h; plain = refl }

  pub new_opt : {a : ℕ} → a < n → New n 8 a 0 (Types.opt a)
  unfolding kind_of fields_of zeros name_of
  new_opt h = record { words = refl; low = Formed.opt h; plain = refl }

-- and by words that are its own
pub new_by : {n k a b : ℕ} {w : Words.Entry} {x : Entry} → w.kind ∷ w.a ∷ w.b ∷ [] ≡ entry_words x → New n k a b x → New n w.kind w.a w.b x
new_by p new = record { words = sym p; low = new.low; plain = new.plain }

-- its words make it
pub new_is : {n k a b : ℕ} {x : Entry} → New n k a b x → entry_of k a b ≡ x
new_is {x = x} new = ap (λ (ws : List ℕ). entry_of (get_or ws 0 0) (get_or ws 1 0) (get_or ws 2 0)) (sym new.words) ∙ entry_made x
