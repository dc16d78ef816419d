-- What reading leaves, by its answer: tables that were read and are held, or a refusal.
-- Assumes nothing.
use mathlib.Core.Path.{◌≡◌, refl, ap}
use mathlib.Core.List.{List}
use Prim.Native.Nat.{ℕ}
use Rattle.std.specs.Prelude as Std
use Rattle.meaning.specs.Base.{Out, ok, refused}
use Rattle.meaning.specs.Records.{Tables}
use Rattle.refusals.specs.declared.Refusal.{Refusal}
use Rattle.refusals.specs.Says.{number_of}
use Rattle.reading.specs.declared.Given.{Given}
use Rattle.reading.specs.declared.Read.{Read}
use Rattle.reading.specs.Says.{maybe, seen, read_of, Left, Held}

-- tables were read, and all that is lent or given holds them
pub record Finished (tw cw : ℕ) (u w : List ℕ) (g : Given) (count nodes : ℕ) (o : Out Tables) : Type 0 where
  pub tables : Tables
  pub is : o ≡ ok tables
  pub held : Held tw cw u w g count nodes tables

module _ {tw cw : ℕ} {u w : List ℕ} where
  pub answer_done : (o : Out Tables) {r : Read} → Left tw cw (Std.Ok r) u w o → Finished tw cw u w r.given r.types r.nodes o
  unfolding read_of
  answer_done (ok t) {r} l =
      let q : r ≡ seen t = cc (l.answer) in
      record {
        tables = t;
        is = refl;
        held = record { entries = ap (λ (x : Read). x.types) q; nodes_are = ap (λ (x : Read). x.nodes) q; given = ap (λ (x : Read). x.given) q; types = l.types; code = l.code };
      }
  answer_done (refused n place) l = cc (l.answer)

  -- and whether record 80 was read, and what it names
  pub answer_ended : {o : Out Tables} {t : Tables} → o ≡ ok t → {r : Read} → Left tw cw (Std.Ok r) u w o → r.result ≡ maybe t.result
  unfolding read_of
  answer_ended {t = t} k {r} l = let q : r ≡ seen t = cc (l.answer, ap read_of k) in ap (λ (x : Read). x.result) q

  pub answer_refused : (o : Out Tables) {r : Refusal} → Left tw cw (Std.Err r) u w o → o ≡ refused (number_of r.reason) r.place
  unfolding read_of
  answer_refused (ok t) l = cc (l.answer)
  answer_refused (refused n place) l = cc (l.answer)
