-- What a record that reading accepts tells: its words are those of the entry or the variable that it gives, the counts go on by it, and there was room.
-- Assumes nothing.
use mathlib.Core.Path.{◌≡◌, refl, sym, ap, subst, ◌∙◌}
use mathlib.Core.Bool.{false}
use mathlib.Core.List.{List, [], ◌∷◌}
use Prim.Native.Nat.{ℕ, ◌+◌, ◌*◌, ◌≤◌}
use native.Mathlib.Omega.{arith}
use lib.ListN.{length, get_or, length-append}
use Rattle.meaning.specs.Base.{find, zeros}
use Rattle.meaning.specs.Types.{kind_of, fields_of, entry_words, entry_of}
use Rattle.meaning.specs.Records as Records
use Rattle.meaning.specs.Records.{Sort, has_section, fields_at, var_of, node, Tables, put}
use Rattle.meaning.proofs.Lists.{never}
use Rattle.meaning.proofs.Grammar.{Row, form_row}
use Rattle.meaning.proofs.Reading.{Read}
use Rattle.records.specs.declared.Section.{Section}
use Rattle.records.specs.declared.Item.{Item}
use Rattle.records.specs.Says as Says
use Rattle.records.specs.Says.{section_of, sorts_of, item_of, Filled}
use Rattle.records.proofs.Found.{Known-there}
use Rattle.reading.specs.declared.Counts.{Counts}
use Rattle.reading.specs.Says.{caps, var_words}
use Rattle.reading.specs.Steps.{Counted, counted_as, counted, with}
use Rattle.reading.specs.Lists.{Lists, Space, Worded}

-- WORDS
module _ (s : List ℕ) (at : ℕ) where
  entry_words_lem : {k : ℕ} {ss : List Sort} → Row Records.types k ss
      → entry_words (entry_of k (get_or (fields_at s at ss) 0 0) (get_or (fields_at s at ss) 1 0)) ≡ k ∷ get_or (fields_at s at ss) 0 0 ∷ get_or (fields_at s at ss) 1 0 ∷ []
  unfolding fields_at entry_of find kind_of fields_of zeros
  entry_words_lem Row.type·element = refl
  entry_words_lem Row.type·pair = refl
  entry_words_lem Row.type·union = refl
  entry_words_lem Row.type·star = refl
  entry_words_lem Row.type·plus = refl
  entry_words_lem Row.type·opt = refl
  entry_words_lem Row.type·name = refl

  -- the same of two words that are the fields
  entry_worded : {k : ℕ} {ss : List Sort} (a b : ℕ) (ws : List ℕ) → a ≡ get_or ws 0 0 → b ≡ get_or ws 1 0 → ws ≡ fields_at s at ss → Row Records.types k ss → entry_words (entry_of k a b) ≡ k ∷ a ∷ b ∷ []
  entry_worded a b ws p q r row = rw (p, q, r) (entry_words_lem row)

var_words_lem : {k : ℕ} {ss : List Sort} (v e : ℕ) → Row Records.variables k ss → var_words (v, var_of k e) ≡ k ∷ v ∷ e ∷ []
var_words_lem v e Row.tree = refl
var_words_lem v e Row.forest = refl

pub worded : {file : Records.File} {s : List ℕ} {at : ℕ} {i : Item} → Known-there file s at (item_of i) → Filled i → Worded i
worded {s = s} {at = at} {i = i} h f =
    record {
      entry = λ e.
          let row : Row Records.types i.kind (sorts_of i.form) = subst (λ (x : Section). Row (section_of x) i.kind (sorts_of i.form)) e (form_row i.kind h.known) in
          entry_worded s (at + 4) i.a i.b (Says.fields_of i) f.a f.b h.fields row;
      var = λ e. var_words_lem {ss = sorts_of i.form} i.a i.b (subst (λ (x : Section). Row (section_of x) i.kind (sorts_of i.form)) e (form_row i.kind h.known));
    }

-- COUNTS
counted_more : {here : Counts} {t : Tables} (i : Item) (x : Section) → i.form.section ≡ x → (x ≡ Section.Values → ⊥) → Counted here t → Counted (counted_as x here i) (put (section_of x) i.kind i.a i.b i.c t)
unfolding put
counted_more {t = t} i Section.Types e n h =
    record { types = omega (arith, h.types, length-append t.types (entry_of i.kind i.a i.b ∷ [])); defs = h.defs; vars = h.vars; nodes = h.nodes; section = ap section_of e; result = h.result }
counted_more {t = t} i Section.Definitions e n h =
    record { types = h.types; defs = omega (arith, h.defs, length-append t.defs (i.a ∷ [])); vars = h.vars; nodes = h.nodes; section = ap section_of e; result = h.result }
counted_more {t = t} i Section.Variables e n h =
    record { types = h.types; defs = h.defs; vars = omega (arith, h.vars, length-append t.vars ((i.a, var_of i.kind i.b) ∷ [])); nodes = h.nodes; section = ap section_of e; result = h.result }
counted_more {t = t} i Section.Query e n h =
    record { types = h.types; defs = h.defs; vars = h.vars; nodes = omega (arith, h.nodes, length-append t.code (node i.kind i.a i.b i.c ∷ [])); section = ap section_of e; result = h.result }
counted_more {t = t} i Section.Result e n h =
    record { types = h.types; defs = h.defs; vars = h.vars; nodes = h.nodes; section = ap section_of e; result = refl }
counted_more i Section.Values e n h = absurd (n refl)

-- the place goes on to the record's end
pub counted_at : (here : Counts) (i : Item) (x : Section) → (counted_as x here i).at ≡ i.next
counted_at here i Section.Types = refl
counted_at here i Section.Definitions = refl
counted_at here i Section.Variables = refl
counted_at here i Section.Query = refl
counted_at here i Section.Result = refl
counted_at here i Section.Values = refl

pub counted_with : {file : Records.File} {s : List ℕ} {at : ℕ} (i : Item) {here : Counts} {t : Tables} → has_section file Records.value ≡ false → Known-there file s at (item_of i) → Counted here t → Counted (counted here i) (with t i)
counted_with {file} i n h c =
    let foreign : i.form.section ≡ Section.Values → ⊥ = λ e. never (sym n ∙ ap (λ (x : Section). has_section file (section_of x)) (sym e) ∙ h.own) in
    counted_more i i.form.section refl foreign c

-- ROOM: what was read with the record is within the bounds, so there was a place for it
module _ (t : Tables) (i : Item) where
  types_more : i.form.section ≡ Section.Types → length (with t i).types ≡ length t.types + 1
  unfolding put
  types_more e = rw e (length-append t.types (entry_of i.kind i.a i.b ∷ []))

  defs_more : i.form.section ≡ Section.Definitions → length (with t i).defs ≡ length t.defs + 1
  unfolding put
  defs_more e = rw e (length-append t.defs (i.a ∷ []))

  vars_more : i.form.section ≡ Section.Variables → length (with t i).vars ≡ length t.vars + 1
  unfolding put
  vars_more e = rw e (length-append t.vars ((i.a, var_of i.kind i.b) ∷ []))

  code_more : i.form.section ≡ Section.Query → length (with t i).code ≡ length t.code + 1
  unfolding put
  code_more e = rw e (length-append t.code (node i.kind i.a i.b i.c ∷ []))

pub space : {room limit at : ℕ} {t : Tables} {i : Item} {here : Counts} {l : Lists} → Read (caps room limit) at (with t i) → Counted here t → 3 * room ≤ length l.types → 4 * limit ≤ length l.code → length l.defs ≡ 64 → length l.vars ≡ 48 → Space i here l
space {t = t} {i = i} r c wide deep dl vl =
    record {
      types = λ e. omega (arith, types_more t i e, r.types.fits, c.types);
      defs = λ e. omega (arith, defs_more t i e, r.defs.few, c.defs);
      vars = λ e. omega (arith, vars_more t i e, r.vars.few, c.vars);
      code = λ e. omega (arith, code_more t i e, r.code.few, c.nodes);
    }
