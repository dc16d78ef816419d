-- What reading leaves is what the checks ask, and reading with the checks after it is `read_job`.
-- Assumes nothing.
use mathlib.Core.Path.{◌≡◌, refl, ap, ◌∙◌, subst}
use mathlib.Core.List.{List}
use Prim.Native.Nat.{ℕ, ◌-◌, ◌≤◌}
use native.Mathlib.Omega.{arith}
use lib.ListN.{length, take}
use lib.Seq.{take_at}
use Rattle.meaning.specs.Base.{Out, ok, refused, concat_map, zeros, padded, caps_of, type_width, code_width}
use Rattle.meaning.specs.Types.{entry_words, table_words}
use Rattle.meaning.specs.Records as Records
use Rattle.meaning.specs.Records.{Node, node_words, Tables, read_records}
use Rattle.meaning.specs.Formed.{CodeRead}
use Rattle.meaning.specs.Typing.{read_types, read_code}
use Rattle.meaning.specs.Checks.{check_job, read_job}
use Rattle.meaning.proofs.Ends.{Ends, ends_ok}
use Rattle.meaning.proofs.Reading as Reading
use Rattle.meaning.proofs.Reading.{Through, caps_of_small, reads}
use Rattle.words.proofs.Rows.{padded_most, rows_length}
use Rattle.words.proofs.Tables.{entry_wide, node_wide, table_lent, code_lent}
use Rattle.std.specs.Prelude as Std
use Rattle.refusals.specs.declared.Refusal.{Refusal}
use Rattle.refusals.specs.Says.{number_of}
use Rattle.reading.specs.declared.Given.{Given}
use Rattle.reading.specs.declared.Read.{Read}
use Rattle.reading.specs.Says as Says
use Rattle.reading.specs.Says.{var_words, given_of, Held}
use Rattle.reading.proofs.Decoding.{var_wide, vars_lent}
use Rattle.reading.proofs.Leaving.{Finished, answer_done, answer_refused}
use Rattle.words.specs.Tables.{table_of, code_of, vars_of}
use Rattle.checks.specs.Says as Checks
use Rattle.checks.specs.Says.{Stored}
use Rattle.jobs.specs.declared.Job.{Job}
use Rattle.jobs.specs.Says.{job_of, Ready, Left, Settled}

defs_lent : (D : List ℕ) → take (length D) (padded 64 D) ≡ D
defs_lent D = take_at D (zeros (64 - length D)) (length D) refl

roomier : {room : ℕ} {code : List Node} → room ≤ 1024 → CodeRead room code → CodeRead 1024 code
roomier l r = record { few = omega (arith, l, r.few); nodes = r.nodes }

module _ (tw cw : ℕ) {at : ℕ} {t : Tables} (r : Reading.Read (caps_of tw cw) at t) where
  tables_ready : Ready (padded tw (table_words t.types)) (padded cw (concat_map node_words t.code)) (length t.types) (length t.code) (given_of t)
  tables_ready =
      record {
        types_inside = omega (arith, rows_length entry_words type_width entry_wide t.types, padded_most tw (table_words t.types));
        defs_inside = padded_most 64 t.defs;
        vars_inside = omega (arith, rows_length var_words 3 var_wide t.vars, padded_most 48 (concat_map var_words t.vars));
        code_inside = omega (arith, rows_length node_words code_width node_wide t.code, padded_most cw (concat_map node_words t.code));
        read = rw (table_lent tw t.types, defs_lent t.defs, vars_lent 48 t.vars, code_lent cw t.code) read;
      }
    where
      read : Checks.Ready t.types t.defs t.vars t.code
      read =
          record {
            room = (caps_of tw cw).types;
            small = (caps_of_small tw cw).types;
            types_read = r.types;
            defs_read = r.defs;
            vars_read = r.vars;
            code_read = roomier (caps_of_small tw cw).code r.code;
          }

tables_stored : (tw cw : ℕ) (t : Tables) → Stored (table_of (padded tw (table_words t.types)) (length t.types)) (take (given_of t).used (given_of t).defs) (vars_of (given_of t).vars (given_of t).declared) (code_of (padded cw (concat_map node_words t.code)) (length t.code)) t
tables_stored tw cw t = record { types_are = table_lent tw t.types; defs_are = defs_lent t.defs; vars_are = vars_lent 48 t.vars; code_are = code_lent cw t.code }

module _ {tw cw count nodes : ℕ} {u w : List ℕ} {g : Given} {t : Tables} (h : Held tw cw u w g count nodes t) where
  pub held_ready : {at : ℕ} → Reading.Read (caps_of tw cw) at t → Ready u w count nodes g
  held_ready r = rw (h.types, h.code, h.given, h.entries, h.nodes_are) (tables_ready tw cw r)

  pub held_stored : Stored (table_of u count) (take g.used g.defs) (vars_of g.vars g.declared) (code_of w nodes) t
  held_stored = rw (h.types, h.code, h.given, h.entries, h.nodes_are) (tables_stored tw cw t)

  -- THE CHECKS PASSED
  pub passed_leaves : (o : Out Tables) → ok t ≡ o → Left tw cw (Std.Ok (record { types = count; nodes = nodes; given = g })) u w o
  unfolding job_of
  passed_leaves o p =
      subst (Left tw cw (Std.Ok (record { types = count; nodes = nodes; given = g })) u w) p
      (record { answer = rw (h.given, h.entries, h.nodes_are); types = h.types; code = h.code })

-- A REFUSAL, with both tables clear
pub refused_leaves : {tw cw : ℕ} {u w : List ℕ} (r : Refusal) (o : Out Tables) → refused (number_of r.reason) r.place ≡ o → u ≡ zeros tw → w ≡ zeros cw → Left tw cw (Std.Err r) u w o
unfolding job_of
refused_leaves {tw} {cw} {u = u} {w = w} r o p t c = subst (Left tw cw (Std.Err r) u w) p (record { answer = refl; types = t; code = c })

-- READING that ended at tables: they are ready for the checks, and what the checks leave is what `read_job` leaves
module _ {tw cw : ℕ} {u w : List ℕ} {read : Read} (s : List ℕ) (l : Says.Left tw cw (Std.Ok read) u w (read_records Records.job (caps_of tw cw) s)) where
  f : Finished tw cw u w read.given read.types read.nodes (read_records Records.job (caps_of tw cw) s)
  f = answer_done (read_records Records.job (caps_of tw cw) s) l

  through : Through (caps_of tw cw) s f.tables
  through = ends_ok (subst (Ends _ _) f.is (reads Records.job s refl (caps_of_small tw cw)))

  pub job_ready : Ready u w read.types read.nodes read.given
  job_ready = held_ready f.held through.read

  job_checks : check_job (length s) f.tables ≡ read_job (caps_of tw cw) s
  unfolding read_job
  job_checks = rw f.is

  pub job_settled : {tw₁ cw₁ : ℕ} {r : Std.Result Job Refusal} {x y : List ℕ} → tw₁ ≡ tw → cw₁ ≡ cw → Settled tw₁ cw₁ u w read.given read.types read.nodes (length s) r x y → Left tw cw r x y (read_job (caps_of tw cw) s)
  job_settled {r = r} {x = x} {y = y} p q k =
      let k₁ : Settled tw cw u w read.given read.types read.nodes (length s) r x y = rw (← p, ← q) k in
      subst (Left tw cw r x y) job_checks (k₁.leaves f.tables f.held (held_stored f.held))

-- READING that was refused: so is the job
job_refused : (tw cw : ℕ) {n place : ℕ} (s : List ℕ) → read_records Records.job (caps_of tw cw) s ≡ refused n place → refused n place ≡ read_job (caps_of tw cw) s
unfolding read_job
job_refused tw cw s p = rw p

pub job_stopped : {tw cw : ℕ} {u w : List ℕ} (r : Refusal) (s : List ℕ) → Says.Left tw cw (Std.Err r) u w (read_records Records.job (caps_of tw cw) s) → Left tw cw (Std.Err r) u w (read_job (caps_of tw cw) s)
job_stopped {tw} {cw} r s l =
    let e = answer_refused (read_records Records.job (caps_of tw cw) s) l in
    refused_leaves r (read_job (caps_of tw cw) s) (job_refused tw cw s e) (l.types ∙ ap (read_types tw) e) (l.code ∙ ap (read_code cw) e)
