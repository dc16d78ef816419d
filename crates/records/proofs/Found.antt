-- What stands at a place, by cases: one law for each way that `record_at`, `value_at` and `item_at` return. And what a record that stands there tells.
-- Assumes nothing.
use mathlib.Core.Path.{◌≡◌, refl, sym, ap, ◌∙◌}
use mathlib.Core.Bool.{true}
use mathlib.Core.List.{List}
use mathlib.Core.Option.{Option, some}
use Prim.Native.Nat.{ℕ, ◌+◌, ◌-◌, ◌≤◌, ◌<◌}
use native.Mathlib.Omega.{arith}
use borrow.Author.Tests.{le-leb, lt-leb, eq-eqb, ne_eqb, leb-true}
use lib.Dec.{leb, eqb}
use lib.ListN.{length}
use Rattle.meaning.specs.Base.{Out, ok, ◌>>=◌, require, given, find, word}
use Rattle.meaning.specs.Records as Records
use Rattle.meaning.specs.Records.{forms, has_section, own_form, form_in, length_of, Record, fields_at, record_at}
use Rattle.meaning.proofs.Ends.{Ends, gives, ends_bind, ends_require, ends_given, ends_ok, Anyhow}
use Rattle.meaning.proofs.Grammar.{own_form_lem}
use Rattle.std.specs.Prelude as Std
use Rattle.refusals.specs.declared.Reason.{Reason}
use Rattle.records.specs.declared.Form.{Form}
use Rattle.records.specs.declared.Item.{Item}
use Rattle.records.specs.Says.{form_of, Owned, FieldAt, Stands}
use Rattle.records.proofs.Fields.{fields_are, filled}

module _ (file : Records.File) (s : List ℕ) (at : ℕ) where
  pub short : length s < at + 4 → Stands file s at (Std.Err Reason.Cut)
  unfolding record_at
  short h = record { is = rw (lt-leb (at + 4) (length s) (omega arith)); complete = tt }

  -- from the form on
  rest : Option Records.Form → Out Record
  rest o = do
    f ← given o 2 at
    _ ← require (eqb (word s at) (length_of f)) 3 at
    _ ← require (leb (at + length_of f) (length s)) 1 at
    ok (record { kind = word s (at + 2); form = f; fields = fields_at s (at + 4) f.sorts; next = at + length_of f })

  opened : at + 4 ≤ length s → record_at file s at ≡ rest (form_in file (word s (at + 2)))
  unfolding record_at rest
  opened h = rw (le-leb (at + 4) (length s) h)

  pub strange : {k : ℕ} → at + 4 ≤ length s → k ≡ word s (at + 2) → Owned file k Std.None → Stands file s at (Std.Err Reason.UnknownKind)
  unfolding rest
  strange h ek o = record { is = sym (opened h ∙ ap rest (ap (form_in file) (sym ek) ∙ sym o.is)); complete = tt }

  module _ (f : Form) (h : at + 4 ≤ length s) (k : ℕ) (ek : k ≡ word s (at + 2)) (o : Owned file k (Std.Some f)) where
    read_own : record_at file s at ≡ rest (some (form_of f))
    read_own = opened h ∙ ap rest (ap (form_in file) (sym ek) ∙ sym o.is)

    pub misfit : (w : ℕ) → w ≡ word s at → (w ≡ f.length → ⊥) → Stands file s at (Std.Err Reason.WrongLength)
    unfolding rest
    misfit w ew d = record { is = sym (read_own ∙ rw (ne_eqb (word s at) (length_of (form_of f)) (λ q. d (ew ∙ q ∙ sym o.sized)))); complete = tt }

    pub past : (w : ℕ) → w ≡ word s at → w ≡ f.length → length s - at < f.length → Stands file s at (Std.Err Reason.Cut)
    unfolding rest
    past w ew d l =
        record {
          is = sym (read_own ∙ rw (eq-eqb (word s at) (length_of (form_of f)) (sym ew ∙ d ∙ o.sized), lt-leb (at + length_of (form_of f)) (length s) (omega (arith, o.sized))));
          complete = tt;
        }

    pub whole : (w a b c : ℕ) → w ≡ word s at → w ≡ f.length → f.length ≤ length s - at
        → FieldAt s (at + 4) (at + f.length) a → FieldAt s (at + 6) (at + f.length) b → FieldAt s (at + 8) (at + f.length) c
        → Stands file s at (Std.Ok (record { kind = k; a = a; b = b; c = c; form = f; next = at + f.length }))
    unfolding rest
    whole w a b c ew d l fa fb fc =
        let i : Item = record { kind = k; a = a; b = b; c = c; form = f; next = at + f.length } in
        record {
          is = sym (read_own ∙ rw (eq-eqb (word s at) (length_of (form_of f)) (sym ew ∙ d ∙ o.sized), le-leb (at + length_of (form_of f)) (length s) (omega (arith, o.sized)))
              (λ j. ok (record { kind = sym ek j; form = form_of f; fields = sym (fields_are s at i o.sized fa fb fc) j; next = at + sym o.sized j })));
          complete = filled s at i o.sized fa fb fc;
        }

-- A RECORD THAT STANDS THERE is of a known kind, of a section that its file has, and ends within the file
pub record Known-there (file : Records.File) (s : List ℕ) (at : ℕ) (r : Record) : Type 0 where
  pub known : find r.kind forms ≡ some r.form
  pub own : has_section file r.form.section ≡ true
  pub fields : r.fields ≡ fields_at s (at + 4) r.form.sorts
  pub next : r.next ≡ at + length_of r.form
  pub within : r.next ≤ length s

pub there : (file : Records.File) (s : List ℕ) (at : ℕ) (r : Record) → ok r ≡ record_at file s at → Known-there file s at r
unfolding record_at
there file s at r e = ends_ok (rw (sym e) at ends)
  where
    ends : Ends (Known-there file s at) Anyhow (record_at file s at)
    ends =
        ends_bind (ends_require (leb (at + 4) (length s)) 1 at tt) λ _ _.
        ends_bind (ends_given (form_in file (word s (at + 2))) 2 at tt) λ f p.
        ends_bind (ends_require (eqb (word s at) (length_of f)) 3 at tt) λ _ _.
        ends_bind (ends_require (leb (at + length_of f) (length s)) 1 at tt) λ _ l.
        let own = own_form_lem file (find (word s (at + 2)) forms) f p in
        gives (record { known = own.0; own = own.1; fields = refl; next = refl; within = leb-true _ _ l })
