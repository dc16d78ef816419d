-- What is left after the writer, by its answer; and reading with the writer after it is `write_text`.
-- Assumes nothing.
use mathlib.Core.Path.{◌≡◌, refl, ap, sym, subst, ◌∙◌}
use mathlib.Core.List.{List, ◌++◌}
use Prim.Native.Nat.{ℕ, ◌*◌, ◌-◌, ◌≤◌}
use native.Mathlib.Omega.{arith}
use lib.ListN.{length, drop}
use Rattle.std.specs.Prelude as Std
use Rattle.std.specs.Prelude.{Result}
use Rattle.meaning.specs.Base.{Out, ok, refused, ◌>>=◌, zeros, caps_of, type_width, code_width}
use Rattle.meaning.specs.Records.{Tables}
use Rattle.meaning.specs.Queries.{Query, query_at}
use Rattle.meaning.specs.Typing.{read_types, read_code}
use Rattle.meaning.specs.Checks.{read_job}
use Rattle.meaning.specs.Written.{Spoken, spoken, write_text}
use Rattle.meaning.proofs.Ends.{ends_ok}
use Rattle.meaning.proofs.Reading.{caps_of_small}
use Rattle.meaning.proofs.Accepting.{Accepted, accepts}
use Rattle.words.specs.Tables.{code_of}
use Rattle.words.proofs.Tables.{table_inside, table_cleared, code_inside, code_cleared}
use Rattle.refusals.specs.declared.Refusal.{Refusal}
use Rattle.refusals.proofs.Told.{told_err}
use Rattle.reading.specs.declared.Given.{Given}
use Rattle.reading.specs.Says.{Held}
use Rattle.reading.proofs.Leaving.{Finished}
use Rattle.jobs.specs.declared.Job.{Job}
use Rattle.jobs.specs.Says as Jobs
use Rattle.jobs.proofs.Checking.{held_stored}
use Rattle.jobs.proofs.Telling.{job_accepted, job_refused}
use Rattle.written.specs.Says as Writes
use Rattle.written.specs.Says.{root_of, Ready}
use Rattle.written.proofs.Whole.{accepted_ready}
use Rattle.texts.specs.declared.Text.{Text}
use Rattle.texts.specs.Says.{answer_of, Left, speaking, Settled}

-- a job with its text
abbrev then : Tables → Out (List ℕ) → Out Spoken
then t o = o >>= λ f. ok (record { job = t; text = f })

-- AFTER THE WRITER, by its answer
module _ {types query : List ℕ} {room count nodes : ℕ} {g : Given} {t : Tables} (h : Held (length types) (length query) types query g count nodes t) {b : List ℕ} where
  fit_leaves : {n : ℕ} (o : Out (List ℕ)) → Writes.Left room (Std.Ok n) b o → Left (length types) (length query) room (Std.Ok (record { length = n; types = count; nodes = nodes })) types query b (then t o)
  unfolding answer_of
  fit_leaves {n} (ok f) l =
      let m : n ≡ length f = cc (l.answer) in
      record { answer = rw (m, h.entries, h.nodes_are); types = h.types; code = h.code; bytes = l.bytes }
  fit_leaves (refused n place) l = cc (l.answer)

  refused_leaves : {u w : List ℕ} → u ≡ zeros (type_width * count) ++ drop (type_width * count) types → w ≡ zeros (code_width * nodes) ++ drop (code_width * nodes) query
      → {x : Refusal} (o : Out (List ℕ)) → Writes.Left room (Std.Err x) b o → Left (length types) (length query) room (Std.Err x) u w b (then t o)
  unfolding answer_of
  refused_leaves a c (ok f) l = cc (l.answer)
  refused_leaves a c {x} (refused n place) l =
      let e = told_err x l.answer in
      record { answer = λ j. refused (e.0 j) (e.1 j); types = table_cleared (length types) t.types h.entries h.types refl a; code = code_cleared (length query) t.code h.nodes_are h.code refl c; bytes = l.bytes }

-- the query that was written is the job's
root_is : {types query : List ℕ} {count nodes : ℕ} {g : Given} {t : Tables} → Held (length types) (length query) types query g count nodes t → root_of (code_of query nodes) ≡ query_at t.code (length t.code - 1)
root_is h = ap root_of (held_stored h).code_are

module _ (types query : List ℕ) (room count nodes : ℕ) {x : Result ℕ Refusal} {b : List ℕ} where
  of_job : Writes.Left room x b (spoken room (root_of (code_of query nodes))) → {t : Tables} {g : Given} → Held (length types) (length query) types query g count nodes t → Writes.Left room x b (spoken room (query_at t.code (length t.code - 1)))
  of_job l h = subst (λ (q : Query). Writes.Left room x b (spoken room q)) (root_is h) l

module _ (types query : List ℕ) (room count nodes : ℕ) {b : List ℕ} where
  pub written_settled : {n : ℕ} → Writes.Left room (Std.Ok n) b (spoken room (root_of (code_of query nodes))) → Settled types query room count nodes (Std.Ok (record { length = n; types = count; nodes = nodes })) types query b
  written_settled l = record { leaves = λ t g h. fit_leaves h (spoken room (query_at t.code (length t.code - 1))) (of_job types query room count nodes l h) }

  pub refused_settled : {u w : List ℕ} {x : Refusal} → Writes.Left room (Std.Err x) b (spoken room (root_of (code_of query nodes))) → u ≡ zeros (type_width * count) ++ drop (type_width * count) types → w ≡ zeros (code_width * nodes) ++ drop (code_width * nodes) query
      → Settled types query room count nodes (Std.Err x) u w b
  refused_settled l a c = record { leaves = λ t g h. refused_leaves h a c (spoken room (query_at t.code (length t.code - 1))) (of_job types query room count nodes l h) }

-- refused: so is the text
unwritten : (tw cw : ℕ) (s : List ℕ) {n place : ℕ} (room : ℕ) → read_job (caps_of tw cw) s ≡ refused n place → write_text (caps_of tw cw) room s ≡ refused n place
unfolding write_text
unwritten tw cw s room e = rw e

-- AFTER READING, by its answer
module _ {tw cw : ℕ} {u w : List ℕ} (s : List ℕ) where
  module _ {j : Job} (l : Jobs.Left tw cw (Std.Ok j) u w (read_job (caps_of tw cw) s)) (long-types : length u ≡ tw) (long-query : length w ≡ cw) where
    finished : Finished tw cw u w j.given j.types j.nodes (read_job (caps_of tw cw) s)
    finished = job_accepted (read_job (caps_of tw cw) s) l

    held : Held (length u) (length w) u w j.given j.types j.nodes finished.tables
    held = rw (long-types, long-query) finished.held

    accepted : Accepted (caps_of tw cw) finished.tables
    accepted = ends_ok (rw finished.is at (accepts s (caps_of_small tw cw)))

    pub job_long : type_width * j.types ≤ length u
    job_long = table_inside (length u) finished.tables.types held.entries held.types

    pub job_code : code_width * j.nodes ≤ length w
    job_code = code_inside (length w) finished.tables.code held.nodes_are held.code

    pub job_ready : Ready (code_of w j.nodes)
    job_ready =
        rw (held_stored held).code_are
        (accepted_ready accepted (record { few = omega (arith, accepted.few_code, (caps_of_small tw cw).code); low = accepted.nodes }))

    written_job : (room : ℕ) → write_text (caps_of tw cw) room s ≡ speaking room finished.tables
    unfolding write_text
    written_job room = rw finished.is

    pub job_settled : {room : ℕ} {r : Result Text Refusal} {x y b : List ℕ} → Settled u w room j.types j.nodes r x y b → Left tw cw room r x y b (write_text (caps_of tw cw) room s)
    job_settled {room} {r} {x} {y} {b} k =
        let o = write_text (caps_of tw cw) room s in
        let left : Left (length u) (length w) room r x y b o = subst (Left (length u) (length w) room r x y b) (sym (written_job room)) (k.leaves finished.tables j.given held) in
        subst (λ (m : ℕ). Left tw m room r x y b o) long-query (subst (λ (m : ℕ). Left m (length w) room r x y b o) long-types left)

  pub job_stopped : {x : Refusal} {room : ℕ} {b : List ℕ} → Jobs.Left tw cw (Std.Err x) u w (read_job (caps_of tw cw) s) → b ≡ zeros room → Left tw cw room (Std.Err x) u w b (write_text (caps_of tw cw) room s)
  unfolding answer_of
  job_stopped {x} {room} l z =
      let e = job_refused (read_job (caps_of tw cw) s) l in
      rw (unwritten tw cw s room e) (record { answer = refl; types = l.types ∙ ap (read_types tw) e; code = l.code ∙ ap (read_code cw) e; bytes = z })
