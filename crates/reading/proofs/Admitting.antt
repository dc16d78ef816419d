-- What a record does, by cases: one law for each way that `admit` and `advance` return.
-- Assumes nothing.
use mathlib.Core.Path.{◌≡◌, sym, ◌∙◌}
use mathlib.Core.Bool.{Bool, true, false, not}
use mathlib.Core.List.{List}
use Prim.Native.Nat.{ℕ}
use lib.ListN.{length}
use Rattle.meaning.specs.Base.{Out, ok, ◌>>=◌, require}
use Rattle.meaning.specs.Records as Records
use Rattle.meaning.specs.Records.{Section, Var, Node, record_at, Tables, in_order, has_room, all_fit, declared_again, read_record}
use Rattle.std.specs.Prelude as Std
use Rattle.refusals.specs.declared.Reason.{Reason}
use Rattle.records.specs.declared.Item.{Item}
use Rattle.records.specs.Says.{section_of, sorts_of, fields_of, item_of, Filled, Stands}
use Rattle.records.proofs.Fit.{failed, passed}
use Rattle.reading.specs.declared.Counts.{Counts}
use Rattle.reading.specs.Says.{caps}
use Rattle.reading.specs.Steps.{Counted, Shown, counted, with, Admits, Advances}

-- A WHOLE RECORD
module _ (room limit : ℕ) (i : Item) (here : Counts) (vs : List (ℕ × Var)) (cs : List Node) where
  abbrev section : Section
  section = section_of i.form.section

  -- 4, 5, 6 and 7 as tests of the tables
  abbrev ordered : Tables → Bool
  ordered t = in_order t section

  abbrev roomy : Tables → Bool
  roomy t = has_room (caps room limit) t section

  abbrev fit : Tables → Bool
  fit t = all_fit (length t.types) t.code (sorts_of i.form) (fields_of i)

  abbrev twice : Tables → Bool
  twice t = declared_again t section i.a

  -- in their order
  judge : Tables → Bool → Bool → Bool → Bool → Out (Tables × ℕ)
  judge t a b c d = do
    _ ← require a 4 here.at
    _ ← require b 5 here.at
    _ ← require c 6 here.at
    _ ← require (not d) 7 here.at
    ok (with t i, i.next)

  judged : (file : Records.File) (s : List ℕ) (t : Tables) → ok (item_of i) ≡ record_at file s here.at → Filled i → read_record file (caps room limit) s here.at t ≡ judge t (ordered t) (roomy t) (fit t) (twice t)
  unfolding read_record judge
  judged file s t e f = rw (← e, ← f.a, ← f.b, ← f.c)

  pub disordered : {a : Bool} → not a ≡ true → ((t : Tables) → Counted here t → a ≡ in_order t (section_of i.form.section)) → Admits room limit i here vs cs (Std.Err Reason.OutOfOrder)
  unfolding judge
  disordered p h =
      record {
        steps = λ file s t e f sh. judged file s t e f ∙ λ j. judge t (sym (failed p (h t sh.counts)) j) (roomy t) (fit t) (twice t);
        stores = tt;
      }

  module _ {a : Bool} (pa : not a ≡ false) (ha : (t : Tables) → Counted here t → a ≡ in_order t (section_of i.form.section)) where
    pub crowded : {b : Bool} → not b ≡ true → ((t : Tables) → Counted here t → b ≡ has_room (caps room limit) t (section_of i.form.section)) → Admits room limit i here vs cs (Std.Err Reason.TooMany)
    unfolding judge
    crowded p h =
        record {
          steps = λ file s t e f sh. judged file s t e f ∙ λ j. judge t (sym (passed pa (ha t sh.counts)) j) (sym (failed p (h t sh.counts)) j) (fit t) (twice t);
          stores = tt;
        }

    module _ {b : Bool} (pb : not b ≡ false) (hb : (t : Tables) → Counted here t → b ≡ has_room (caps room limit) t (section_of i.form.section)) where
      fitted : {c : Bool} → c ≡ all_fit here.types cs (sorts_of i.form) (fields_of i) → (t : Tables) → Shown here vs cs t → c ≡ fit t
      fitted h t sh = rw (← sh.counts.types, ← sh.code) h

      pub unfit : {c : Bool} → not c ≡ true → c ≡ all_fit here.types cs (sorts_of i.form) (fields_of i) → Admits room limit i here vs cs (Std.Err Reason.Unfit)
      unfolding judge
      unfit p h =
          record {
            steps = λ file s t e f sh. judged file s t e f ∙ λ j. judge t (sym (passed pa (ha t sh.counts)) j) (sym (passed pb (hb t sh.counts)) j) (sym (failed p (fitted h t sh)) j) (twice t);
            stores = tt;
          }

      module _ {c : Bool} (pc : not c ≡ false) (hc : c ≡ all_fit here.types cs (sorts_of i.form) (fields_of i)) where
        ends : (d : Bool) → ((t : Tables) → vs ≡ t.vars → d ≡ twice t)
            → (file : Records.File) (s : List ℕ) (t : Tables) → ok (item_of i) ≡ record_at file s here.at → Filled i → Shown here vs cs t → read_record file (caps room limit) s here.at t ≡ judge t true true true d
        ends d h file s t e f sh =
            judged file s t e f ∙ λ j. judge t (sym (passed pa (ha t sh.counts)) j) (sym (passed pb (hb t sh.counts)) j) (sym (passed pc (fitted hc t sh)) j) (sym (h t sh.vars) j)

        pub repeated : {d : Bool} → d ≡ true → ((t : Tables) → vs ≡ t.vars → d ≡ declared_again t (section_of i.form.section) i.a) → Admits room limit i here vs cs (Std.Err Reason.DeclaredTwice)
        unfolding judge
        repeated p h = record { steps = ends true (λ t v. sym p ∙ h t v); stores = tt }

        pub admitted : {d : Bool} (next : Counts) → d ≡ false → ((t : Tables) → vs ≡ t.vars → d ≡ declared_again t (section_of i.form.section) i.a) → next ≡ counted here i → Admits room limit i here vs cs (Std.Ok next)
        unfolding judge
        admitted next p h n = record { steps = ends false (λ t v. sym p ∙ h t v); stores = n }

-- WHAT STANDS THERE
module _ (room limit : ℕ) (file : Records.File) (s : List ℕ) (here : Counts) (vs : List (ℕ × Var)) (cs : List Node) where
  -- 1, 2, 3
  pub nothing_there : (e : Reason) → Stands file s here.at (Std.Err e) → Advances file s room limit here vs cs (Std.Err e)
  unfolding read_record
  nothing_there e h = record { steps = λ t sh. rw (← h.is); goes = tt }

  module _ (i : Item) (h : Stands file s here.at (Std.Ok i)) where
    -- 4 to 7
    pub not_admitted : (e : Reason) → Admits room limit i here vs cs (Std.Err e) → Advances file s room limit here vs cs (Std.Err e)
    not_admitted e a = record { steps = λ t sh. a.steps file s t h.is h.complete sh; goes = tt }

    pub goes_on : (next : Counts) → Admits room limit i here vs cs (Std.Ok next) → Advances file s room limit here vs cs (Std.Ok (record { item = i; next = next }))
    goes_on next a =
        record {
          steps = λ t sh. a.steps file s t h.is h.complete sh;
          goes = record { item = h.is; filled = h.complete; counts = a.stores };
        }
