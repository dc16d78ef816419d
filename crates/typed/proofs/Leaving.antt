-- What is left after the walk, by its answer; and reading with typing after it is `type_job`.
-- Assumes nothing.
use mathlib.Core.Path.{◌≡◌, refl, ap, ◌∙◌, subst}
use mathlib.Core.List.{List, ◌++◌}
use Prim.Native.Nat.{ℕ, ◌*◌}
use lib.ListN.{length, drop}
use Rattle.meaning.specs.Base.{Out, ok, refused, zeros, type_capacity, caps_of, code_width}
use Rattle.meaning.specs.Records.{Tables}
use Rattle.meaning.specs.Checks.{read_job}
use Rattle.meaning.specs.Typing.{State, typed_as, root, type_of, type_tables, type_job, read_types, read_code}
use Rattle.words.proofs.Tables.{table_length, code_cleared}
use Rattle.std.specs.Prelude as Std
use Rattle.refusals.specs.declared.Refusal.{Refusal}
use Rattle.reading.specs.Says.{Held}
use Rattle.reading.proofs.Leaving.{Finished}
use Rattle.jobs.specs.declared.Job.{Job}
use Rattle.jobs.specs.Says as Jobs
use Rattle.jobs.proofs.Checking.{held_stored}
use Rattle.jobs.proofs.Telling.{job_accepted, job_refused}
use Rattle.grow.specs.declared.Made.{Made}
use Rattle.leaves.specs.Walk.{tabled, walked}
use Rattle.typed.specs.declared.Typed.{Typed}
use Rattle.typed.specs.Says.{typed_of, Left, from_root, Grows, typed_by, Settled}

module _ {us query : List ℕ} {j : Job} where
  -- THE WALK ANSWERED an entry: the tables stay
  pub kept_settled : (m : Made) → Settled us query j (Std.Ok m) (Std.Ok (record { result = m.at; types = m.count; nodes = j.nodes; given = j.given })) us query
  unfolding typed_of
  kept_settled m =
      record { leaves = λ t whole given nodes_are code. record { answer = rw (table_length us m.count, given, nodes_are); types = whole.is; code = code } }

  -- IT WAS REFUSED: both are cleared
  pub cleared_settled : (r : Refusal) {u w : List ℕ} → u ≡ zeros (length us) → w ≡ zeros (code_width * j.nodes) ++ drop (code_width * j.nodes) query → Settled us query j (Std.Err r) (Std.Err r) u w
  unfolding typed_of
  cleared_settled r t c =
      record { leaves = λ job _ _ nodes_are code. record { answer = refl; types = t; code = code_cleared (length query) job.code nodes_are code refl c } }

-- TYPING what is held: the walk, and what is left after it
typed_as_lem : (t : Tables) (o : Out (State × ℕ)) → typed_by t (tabled o) ≡ typed_as t o
typed_as_lem t (ok r) = refl
typed_as_lem t (refused n place) = refl

module _ {types query : List ℕ} {j : Job} {t : Tables} (h : Held (length types) (length query) types query j.given j.types j.nodes t) where
  root_walked : typed_by t (from_root types query j) ≡ type_tables (type_capacity (length types)) t
  unfolding walked type_tables
  root_walked =
      let s = held_stored h in
      rw (s.types_are, s.defs_are, s.vars_are, s.code_are, h.nodes_are) (typed_as_lem t (type_of (type_capacity (length types)) t.defs (root t) t.vars (record { types = t.types })))

  walk_leaves : {us u w : List ℕ} {made : Std.Result Made Refusal} {r : Std.Result Typed Refusal} → Grows types us made (from_root types query j) → Settled us query j made r u w → Left (length types) (length query) r u w (type_tables (type_capacity (length types)) t)
  walk_leaves {us} {u} {w} {made} {r} grown settled =
      subst (λ (n : ℕ). Left n (length query) r u w (type_tables (type_capacity (length types)) t)) grown.long
      (subst (Left (length us) (length query) r u w) (ap (typed_by t) grown.answer ∙ root_walked)
      (settled.leaves t grown.whole h.given h.nodes_are h.code))

-- the job is typed, or refused as its reading is
typed_job : (tw cw : ℕ) {t : Tables} (s : List ℕ) → read_job (caps_of tw cw) s ≡ ok t → type_tables (type_capacity tw) t ≡ type_job (caps_of tw cw) s
unfolding type_job
typed_job tw cw s p = rw p

unread_job : (tw cw : ℕ) {n place : ℕ} (s : List ℕ) → read_job (caps_of tw cw) s ≡ refused n place → refused n place ≡ type_job (caps_of tw cw) s
unfolding type_job
unread_job tw cw s p = rw p

finished_typed : {tw cw : ℕ} {u w us x y : List ℕ} {j : Job} {made : Std.Result Made Refusal} {r : Std.Result Typed Refusal} (s : List ℕ) → Finished tw cw u w j.given j.types j.nodes (read_job (caps_of tw cw) s) → length u ≡ tw → length w ≡ cw
    → Grows u us made (from_root u w j) → Settled us w j made r x y → Left tw cw r x y (type_job (caps_of tw cw) s)
finished_typed {tw} {cw} {x = x} {y = y} {r = r} s f p q grown settled =
    subst (Left tw cw r x y) (typed_job tw cw s f.is) (rw (← p, ← q) (walk_leaves (rw (p, q) f.held) grown settled))

module _ {tw cw : ℕ} {u w : List ℕ} (s : List ℕ) where
  pub job_typed_lem : {x us y : List ℕ} {j : Job} {made : Std.Result Made Refusal} {r : Std.Result Typed Refusal} → Jobs.Left tw cw (Std.Ok j) u w (read_job (caps_of tw cw) s) → length u ≡ tw → length w ≡ cw
      → Grows u us made (from_root u w j) → Settled us w j made r x y → Left tw cw r x y (type_job (caps_of tw cw) s)
  job_typed_lem l p q grown settled = finished_typed s (job_accepted (read_job (caps_of tw cw) s) l) p q grown settled

  pub job_stopped : (r : Refusal) → Jobs.Left tw cw (Std.Err r) u w (read_job (caps_of tw cw) s) → Left tw cw (Std.Err r) u w (type_job (caps_of tw cw) s)
  unfolding typed_of
  job_stopped r l =
      let e = job_refused (read_job (caps_of tw cw) s) l in
      subst (Left tw cw (Std.Err r) u w) (unread_job tw cw s e) (record { answer = refl; types = l.types ∙ ap (read_types tw) e; code = l.code ∙ ap (read_code cw) e })
