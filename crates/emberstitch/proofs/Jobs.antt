-- Jobs by the promise. P10 is accepted with tables of 6 and 4 words or more, so what refuses every job is no reader. Cut by a byte it is refused, 1
-- at 8, and every word is zero, so what accepts every job is none, and neither is what leaves a table as it was. With a
-- type table of under 6 words any bytes are refused, 5 at 0.
-- Assumes nothing.
use mathlib.Core.Path.{◌≡◌, refl, ap, ◌∙◌}
use mathlib.Core.List.{List, [], ◌∷◌}
use mathlib.Core.Option.{none}
use Prim.Native.Nat.{ℕ, ◌≤◌, ◌<◌}
use borrow.Author.Tests.{le-leb}
use native.Mathlib.Omega.{arith}
use lib.ListN.{take}
use Rattle.meaning.specs.Base.{Out, ok, refused, zeros, type_capacity, Caps, caps_of}
use Rattle.meaning.specs.Types.{base}
use Rattle.meaning.specs.Records as Records
use Rattle.meaning.specs.Records.{node, Tables}
use Rattle.meaning.specs.Typing.{read_types, read_code}
use Rattle.meaning.specs.Checks.{read_job}
use Rattle.meaning.specs.Worked.{P10}
use Rattle.meaning.proofs.Ends.{Keeps, kept}
use Rattle.meaning.proofs.Reading.{reads_nothing}
use Rattle.meaning.proofs.Larger.{read_keeps}
use Rattle.meaning.proofs.Worked.{everything}
use Rattle.std.specs.Prelude.{Result, Ok, Err}
use Rattle.refusals.specs.declared.Reason.{Reason}
use Rattle.refusals.specs.declared.Refusal.{Refusal}
use Rattle.refusals.specs.Says.{number_of}
use Rattle.refusals.proofs.Told.{told_ok, told_same}
use Rattle.reading.specs.Says.{given_of}
use Rattle.jobs.specs.declared.Job.{Job}
use Rattle.jobs.specs.Says.{job_of}
use Rattle.emberstitch.specs.Promises.{ReadJob}

-- P10's tables: entries 0 and 1, variable 0 of type 1, and one node
unfoldable pub P10_tables : Tables
P10_tables = record { types = base; defs = []; vars = (0, Records.forest 1) ∷ []; code = node 36 0 0 0 ∷ []; result = none; section = Records.query }

keeps_ok : {a : Tables} {o : Out Tables} → Keeps (ok a) o → o ≡ ok a
keeps_ok kept = refl

least : Caps
least = record { types = 2; code = 1 }

P10_least : read_job least P10 ≡ ok P10_tables
unfolding everything least P10_tables
P10_least = refl

P10_reads : (types query : ℕ) → 6 ≤ types → 4 ≤ query → read_job (caps_of types query) P10 ≡ ok P10_tables
unfolding least
P10_reads types query l m = keeps_ok (rw (← P10_least) (read_keeps least (caps_of types query) (omega (arith, l)) (omega (arith, m)) P10))

P10_cut : (types query : ℕ) → 6 ≤ types → read_job (caps_of types query) (take 13 P10) ≡ refused 1 8
unfolding everything
P10_cut types query l = rw (le-leb 2 (type_capacity types) (omega (arith, l)))

no_room : (types query : ℕ) (job : List ℕ) → types < 6 → read_job (caps_of types query) job ≡ refused 5 0
unfolding read_job
no_room types query job l = rw (reads_nothing (caps_of types query) Records.job job (omega (arith, l)))

-- a refusal, by the promise
refused_leaves : {job u w : List ℕ} {types query : ℕ} {r : Result Job Refusal} (x : Refusal) → read_job (caps_of types query) job ≡ refused (number_of x.reason) x.place → ReadJob job types query r u w → (r ≡ Err x) × (u ≡ zeros types) × (w ≡ zeros query)
unfolding job_of
refused_leaves {types = types} {query = query} {r} x e p =
    (told_same r (Err x) (p.answer ∙ ap job_of e), p.types_left ∙ ap (read_types types) e, p.query_left ∙ ap (read_code query) e)

module _ {types query : ℕ} {r : Result Job Refusal} {u w : List ℕ} where
  pub accepts_P10 : 6 ≤ types → 4 ≤ query → ReadJob P10 types query r u w → r ≡ Ok (record { types = 2; nodes = 1; given = given_of P10_tables })
  unfolding job_of P10_tables
  accepts_P10 l m p = told_ok r (p.answer ∙ ap job_of (P10_reads types query l m))

  pub refuses_P10_cut : 6 ≤ types → ReadJob (take 13 P10) types query r u w → (r ≡ Err (record { reason = Reason.Cut; place = 8 })) × (u ≡ zeros types) × (w ≡ zeros query)
  refuses_P10_cut l p = refused_leaves (record { reason = Reason.Cut; place = 8 }) (P10_cut types query l) p

  pub refuses_without_room : {job : List ℕ} → types < 6 → ReadJob job types query r u w → (r ≡ Err (record { reason = Reason.TooMany; place = 0 })) × (u ≡ zeros types) × (w ≡ zeros query)
  refuses_without_room {job} l p = refused_leaves (record { reason = Reason.TooMany; place = 0 }) (no_room types query job l) p
