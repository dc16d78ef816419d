-- What is left after the writer, by its answer; and typing with the writer after it is `answer_job`.
-- Assumes nothing.
use mathlib.Core.Path.{◌≡◌, refl, ap, sym, subst, ◌∙◌}
use mathlib.Core.List.{List, ◌++◌}
use Prim.Native.Nat.{ℕ, ◌*◌}
use lib.ListN.{length, take, drop}
use Rattle.meaning.specs.Base.{Out, ok, refused, ◌>>=◌, zeros, caps_of, type_width, code_width}
use Rattle.meaning.specs.Typing as Typing
use Rattle.meaning.specs.Typing.{type_job, typed_types, typed_code}
use Rattle.meaning.specs.Answers as Answers
use Rattle.meaning.specs.Answers.{answer_file, fitted, answer_job}
use Rattle.words.specs.Tables.{table_of}
use Rattle.words.proofs.Rows.{padded_most}
use Rattle.words.proofs.Tables.{table_inside, table_cleared, code_inside, code_cleared}
use Rattle.std.specs.Prelude as Std
use Rattle.refusals.specs.declared.Refusal.{Refusal}
use Rattle.refusals.specs.Says.{number_of}
use Rattle.answers.specs.Says as Writes
use Rattle.answers.proofs.Back.{Fitted, fits, short, fitted_is, file_of, job_answered_lem}
use Rattle.typed.specs.declared.Typed.{Typed}
use Rattle.typed.specs.Says as Types
use Rattle.typed.specs.Says.{Holds}
use Rattle.typed.proofs.Telling.{holds_table, holds_defs, told_accepted, told_refused}
use Rattle.answered.specs.declared.Answered.{Answered}
use Rattle.answered.specs.Says.{answered_of, Left, Ready, Settled}

module _ {types query : List ℕ} {j : Typed} {t : Typing.Typed} (h : Holds types query j t) where
  -- the writer can write it, and writes its file
  pub holds_ready : Ready types query j
  holds_ready =
      record {
        table = record { formed = rw (holds_table h, holds_defs h) h.formed; low = rw (holds_table h, h.named) h.low };
        types_inside = table_inside (length types) t.left.types h.entries h.words;
        defs_inside = rw h.is (padded_most 64 t.job.defs);
        code_inside = code_inside (length query) t.job.code h.nodes_are h.code;
      }

  file_is : answer_file (table_of types j.types) (take j.given.used j.given.defs) j.result ≡ file_of t
  file_is = rw (holds_table h, holds_defs h, h.named)

-- a typed job with its file
abbrev then : Typing.Typed → Out (List ℕ) → Out Answers.Answered
then t o = o >>= λ f. ok (record { typed = t; file = f })

-- AFTER THE WRITER: by how the file fits
module _ {types query : List ℕ} {room : ℕ} {j : Typed} {t : Typing.Typed} (h : Holds types query j t) {b : List ℕ} where
  fit_leaves : {n : ℕ} {o : Out (List ℕ)} → Fitted room (file_of t) o → Writes.Left room (Std.Ok n) b o
      → Left (length types) (length query) room (Std.Ok (record { length = n; result = j.result; types = j.types; nodes = j.nodes; given = j.given })) types query b (then t o)
  unfolding answered_of
  fit_leaves {n} (fits k) l =
      let m : n ≡ length (file_of t) = cc (l.answer) in
      record { answer = rw (m, h.named, h.entries, h.nodes_are, h.is); types = h.words; code = h.code; bytes = l.bytes }
  fit_leaves (short k) l = cc (l.answer)

  short_leaves : (r : Refusal) {o : Out (List ℕ)} {u w : List ℕ} → u ≡ zeros (length types) → w ≡ zeros (length query) → Fitted room (file_of t) o → Writes.Left room (Std.Err r) b o → Left (length types) (length query) room (Std.Err r) u w b (then t o)
  unfolding answered_of
  short_leaves r z y (fits k) l = cc (l.answer)
  short_leaves r z y (short k) l =
      let n : number_of r.reason ≡ 17 = cc (l.answer) in
      let p : r.place ≡ length (file_of t) = cc (l.answer) in
      record { answer = rw (n, p); types = z; code = y; bytes = l.bytes }

module _ (types query : List ℕ) (room : ℕ) (j : Typed) where
  -- the file that the writer is asked for
  abbrev file : List ℕ
  file = answer_file (table_of types j.types) (take j.given.used j.given.defs) j.result

  -- the same of the job's own file
  of_job_lem : {b : List ℕ} (x : Std.Result ℕ Refusal) → Writes.Left room x b (fitted room file) → {t : Typing.Typed} → Holds types query j t → Writes.Left room x b (fitted room (file_of t))
  of_job_lem {b} x l h = subst (λ (f : List ℕ). Writes.Left room x b (fitted room f)) (file_is h) l

  pub written_settled : {b : List ℕ} (n : ℕ) → Writes.Left room (Std.Ok n) b (fitted room file) → Settled types query room j (Std.Ok (record { length = n; result = j.result; types = j.types; nodes = j.nodes; given = j.given })) types query b
  written_settled n l = record { leaves = λ t h. fit_leaves h (fitted_is room (file_of t)) (of_job_lem (Std.Ok n) l h) }

  pub short_settled : {b : List ℕ} (r : Refusal) {u w : List ℕ} → Writes.Left room (Std.Err r) b (fitted room file) → u ≡ zeros (type_width * j.types) ++ drop (type_width * j.types) types → w ≡ zeros (code_width * j.nodes) ++ drop (code_width * j.nodes) query → Settled types query room j (Std.Err r) u w b
  short_settled r l z y = record { leaves = λ t h. short_leaves h r (table_cleared (length types) t.left.types h.entries h.words refl z) (code_cleared (length query) t.job.code h.nodes_are h.code refl y) (fitted_is room (file_of t)) (of_job_lem (Std.Err r) l h) }

-- AFTER TYPING, by its answer
unanswered : (tw cw : ℕ) (s : List ℕ) {n place : ℕ} (room : ℕ) → type_job (caps_of tw cw) s ≡ refused n place → answer_job (caps_of tw cw) room s ≡ refused n place
unfolding answer_job
unanswered tw cw s room e = rw e

module _ {tw cw : ℕ} {u w : List ℕ} (s : List ℕ) where
  module _ {j : Typed} (l : Types.Left tw cw (Std.Ok j) u w (type_job (caps_of tw cw) s)) where
    pub job_ready : Ready u w j
    job_ready = holds_ready (told_accepted s l).holds

    pub job_settled : {room : ℕ} {a : Std.Result Answered Refusal} {x y b : List ℕ} → Settled u w room j a x y b → Left tw cw room a x y b (answer_job (caps_of tw cw) room s)
    job_settled {room} {a} {x} {y} {b} k =
        let f = told_accepted s l in
        let left : Left (length u) (length w) room a x y b (answer_job (caps_of tw cw) room s) = subst (Left (length u) (length w) room a x y b) (sym (job_answered_lem (caps_of tw cw) s f.typed f.is room)) (k.leaves f.typed f.holds) in
        subst (λ (m : ℕ). Left tw m room a x y b (answer_job (caps_of tw cw) room s)) f.code_long (subst (λ (m : ℕ). Left m (length w) room a x y b (answer_job (caps_of tw cw) room s)) f.types_long left)

  -- refused: so is the answer
  pub job_stopped : (r : Refusal) {room : ℕ} {b : List ℕ} → Types.Left tw cw (Std.Err r) u w (type_job (caps_of tw cw) s) → b ≡ zeros room → Left tw cw room (Std.Err r) u w b (answer_job (caps_of tw cw) room s)
  unfolding answered_of
  job_stopped r {room} l z =
      let e = told_refused s l in
      let a = unanswered tw cw s room e in
      rw a (record { answer = refl; types = l.types ∙ ap (typed_types tw) e; code = l.code ∙ ap (typed_code cw) e; bytes = z })
