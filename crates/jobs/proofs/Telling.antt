-- For callers: what an answer of reading a job tells.
-- Assumes nothing.
use mathlib.Core.Path.{◌≡◌, refl, ap}
use mathlib.Core.List.{List}
use Prim.Native.Nat.{ℕ}
use Rattle.std.specs.Prelude as Std
use Rattle.meaning.specs.Base.{Out, ok, refused}
use Rattle.meaning.specs.Records.{Tables}
use Rattle.refusals.specs.declared.Refusal.{Refusal}
use Rattle.refusals.specs.Says.{number_of}
use Rattle.reading.proofs.Leaving.{Finished}
use Rattle.jobs.specs.declared.Job.{Job}
use Rattle.jobs.specs.Says.{seen, job_of, Left}

module _ {tw cw : ℕ} {u w : List ℕ} where
  pub job_accepted : (o : Out Tables) {j : Job} → Left tw cw (Std.Ok j) u w o → Finished tw cw u w j.given j.types j.nodes o
  unfolding job_of
  job_accepted (ok t) {j} l =
      let q : j ≡ seen t = cc (l.answer) in
      record {
        tables = t;
        is = refl;
        held = record { entries = ap (λ (x : Job). x.types) q; nodes_are = ap (λ (x : Job). x.nodes) q; given = ap (λ (x : Job). x.given) q; types = l.types; code = l.code };
      }
  job_accepted (refused n place) l = cc (l.answer)

  pub job_refused : (o : Out Tables) {r : Refusal} → Left tw cw (Std.Err r) u w o → o ≡ refused (number_of r.reason) r.place
  unfolding job_of
  job_refused (ok t) l = cc (l.answer)
  job_refused (refused n place) l = cc (l.answer)
