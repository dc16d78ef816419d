-- A job, and an answer file, accepted at one capacity is accepted at every larger one, with the same tables.
-- Assumes nothing.
use mathlib.Core.Path.{◌≡◌}
use mathlib.Core.Bool.{Bool, true, false}
use mathlib.Core.List.{List}
use Prim.Native.Nat.{ℕ, zero, suc, ◌≤◌}
use native.Mathlib.Omega.{arith}
use borrow.Author.Tests.{leb-true, ltb-true, lt-ltb, le-leb}
use lib.Dec.{leb, ltb}
use lib.ListN.{length}
use Rattle.meaning.specs.Base.{Out, ok, require, Caps}
use Rattle.meaning.specs.Records as Records
use Rattle.meaning.specs.Records.{Section, File, record_at, Tables, fresh, in_order, has_room, read_record, read_from, read_records}
use Rattle.meaning.specs.Checks.{check_job, read_job}
use Rattle.meaning.specs.Answers.{read_answer}
use Rattle.meaning.proofs.Ends.{Keeps, kept, keeps_refl, keeps_bind, keeps_require}

module _ (caps more : Caps) (wider : caps.types ≤ more.types) (longer : caps.code ≤ more.code) where
  room_keeps : (t : Tables) (section : Section) → has_room caps t section ≡ true → has_room more t section ≡ true
  room_keeps t Records.types h = lt-ltb (length t.types) more.types (omega (arith, ltb-true (length t.types) caps.types h))
  room_keeps t Records.definitions h = h
  room_keeps t Records.variables h = h
  room_keeps t Records.query h = lt-ltb (length t.code) more.code (omega (arith, ltb-true (length t.code) caps.code h))
  room_keeps t Records.result h = h
  room_keeps t Records.value h = h

  module _ (file : File) (s : List ℕ) where
    record_keeps : (at : ℕ) (t : Tables) → Keeps (read_record file caps s at t) (read_record file more s at t)
    unfolding read_record
    record_keeps at t =
        keeps_bind (keeps_refl (record_at file s at)) λ r.
        keeps_bind (keeps_refl (require (in_order t r.form.section) 4 at)) λ _.
        keeps_bind (keeps_require (has_room caps t r.form.section) (has_room more t r.form.section) 5 at 5 at (room_keeps t r.form.section)) λ _.
        keeps_refl _

    step_keeps : (c : Bool) (t : Tables) {m o : Out Tables} → Keeps m o → Keeps {A = Tables} (elim c as (λ _. Out Tables) [ true ↦ m | false ↦ ok t ]) (elim c as (λ _. Out Tables) [ true ↦ o | false ↦ ok t ])
    step_keeps true t h = h
    step_keeps false t h = kept

    from_keeps : (k at : ℕ) (t : Tables) → Keeps (read_from k file caps s at t) (read_from k file more s at t)
    unfolding read_from
    from_keeps zero at t = kept
    from_keeps (suc k) at t = step_keeps (ltb at (length s)) t (keeps_bind (record_keeps at t) (λ r. from_keeps k r.1 r.0))

    pub records_keep : Keeps (read_records file caps s) (read_records file more s)
    unfolding read_records
    records_keep =
        keeps_bind (keeps_require (leb 2 caps.types) (leb 2 more.types) 5 0 5 0 (λ h. le-leb 2 more.types (omega (arith, leb-true 2 caps.types h)))) λ _.
        from_keeps (length s) 0 fresh

  pub read_keeps : (s : List ℕ) → Keeps (read_job caps s) (read_job more s)
  unfolding read_job
  read_keeps s = keeps_bind (records_keep Records.job s) λ t. keeps_refl (check_job (length s) t)

  pub back_keeps : (s : List ℕ) → Keeps (read_answer caps s) (read_answer more s)
  unfolding read_answer
  back_keeps s = keeps_bind (records_keep Records.answer s) λ t. keeps_refl _
