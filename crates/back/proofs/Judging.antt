-- 8, 9 and 10 over what was read are what `read_answer` does after the records.
-- Assumes nothing.
use mathlib.Core.Path.{◌≡◌, refl, ap, ap₂, sym, subst, ◌∙◌}
use mathlib.Core.List.{List}
use mathlib.Core.Option.{Option, none, some}
use Prim.Native.Nat.{ℕ, ◌-◌}
use lib.ListN.{length, take}
use lib.Seq.{take_at}
use Rattle.meaning.specs.Base.{Out, ok, refused, ◌>>=◌, given, padded, zeros, caps_of}
use Rattle.meaning.specs.Types.{table_words}
use Rattle.meaning.specs.Records as Records
use Rattle.meaning.specs.Records.{Tables, read_records}
use Rattle.meaning.specs.Checks.{check_types}
use Rattle.meaning.specs.Typing.{read_types}
use Rattle.meaning.specs.Answers as Answers
use Rattle.meaning.specs.Answers.{read_answer}
use Rattle.meaning.proofs.Ends.{Ends, ends_ok}
use Rattle.meaning.proofs.Reading.{Through, caps_of_small, reads}
use Rattle.std.specs.Prelude as Std
use Rattle.refusals.specs.declared.Refusal.{Refusal}
use Rattle.refusals.specs.Says.{number_of}
use Rattle.words.specs.Tables.{table_of}
use Rattle.words.specs.Says.{found}
use Rattle.guard.specs.Says.{outcome}
use Rattle.words.proofs.Tables.{table_lent}
use Rattle.reading.specs.declared.Given.{Given}
use Rattle.reading.specs.declared.Read.{Read}
use Rattle.reading.specs.Says as Reads
use Rattle.reading.specs.Says.{maybe}
use Rattle.reading.proofs.Leaving.{Finished, answer_done, answer_ended, answer_refused}
use Rattle.checks.proofs.Answering.{ready_given, ready_few}
use Rattle.jobs.proofs.Checking.{held_ready}
use Rattle.back.specs.declared.Back.{Back}
use Rattle.back.specs.Says.{back_of, Ready, judged, ending, Left, Holds, Settled}

-- JUDGING
module _ (bytes : ℕ) (types : List ℕ) (count : ℕ) (g : Given) where
  pub no_result : {result : Std.Option ℕ} → result ≡ Std.None → refused 8 bytes ≡ judged bytes result types count g
  unfolding judged
  no_result p = rw p

  module _ {result : Std.Option ℕ} {e : ℕ} (p : result ≡ Std.Some e) where
    pub not_checked : (r : Refusal) → outcome (Std.Err r) ≡ check_types (take g.used g.defs) (table_of types count) → refused (number_of r.reason) r.place ≡ judged bytes result types count g
    unfolding judged
    not_checked r q = rw (p, ← q)

    pub checked : outcome (Std.Ok tt) ≡ check_types (take g.used g.defs) (table_of types count) → ok e ≡ judged bytes result types count g
    unfolding judged
    checked q = rw (p, ← q)

-- an answer file that passes is this
abbrev passing : Tables → Out ℕ → Out Answers.Back
passing t o = o >>= λ e. ok (record { tables = t; result = e })

-- the rest of `read_answer` is the judgement of what is held
named : (bytes : ℕ) (t : Tables) (o : Out (Unit {0})) (r : Option ℕ) → t.result ≡ r → o ≡ check_types t.defs t.types → ending bytes t ≡ passing t (given (found (maybe r)) 8 bytes >>= λ e. o >>= λ _. ok e)
unfolding ending
named bytes t o none p q = rw p
named bytes t (ok _) (some e) p q = rw (p, ← q)
named bytes t (refused n place) (some e) p q = rw (p, ← q)

module _ (bytes : ℕ) {types : List ℕ} {read : Read} {t : Tables} (h : Holds types read t) where
  abbrev judgement : Out ℕ
  judgement = judged bytes read.result types read.types read.given

  same_checks : check_types (take read.given.used read.given.defs) (table_of types read.types) ≡ check_types t.defs t.types
  same_checks =
      ap₂ check_types (ap (λ (x : Given). take x.used x.defs) h.is ∙ take_at t.defs (zeros (64 - length t.defs)) (length t.defs) refl)
      (ap (table_of types) h.entries ∙ ap (λ (ws : List ℕ). table_of ws (length t.types)) h.words ∙ table_lent (length types) t.types)

  ending_judged : ending bytes t ≡ passing t judgement
  unfolding judged
  ending_judged =
      named bytes t (check_types (take read.given.used read.given.defs) (table_of types read.types)) t.result refl same_checks
      ∙ ap (λ (r : Std.Option ℕ). passing t (given (found r) 8 bytes >>= λ e. check_types (take read.given.used read.given.defs) (table_of types read.types) >>= λ _. ok e)) (sym h.named)

  pub passed_leaves : (e : ℕ) → ok e ≡ judgement → Left (length types) (Std.Ok (record { result = e; types = read.types; given = read.given })) types (ending bytes t)
  unfolding back_of
  passed_leaves e p =
      let q : ending bytes t ≡ ok (record { tables = t; result = e }) = ending_judged ∙ ap (passing t) (sym p) in
      rw q (record { answer = rw (h.is, h.entries); types = h.words })

  pub refused_leaves : (r : Refusal) {u : List ℕ} → refused (number_of r.reason) r.place ≡ judgement → u ≡ zeros (length types) → Left (length types) (Std.Err r) u (ending bytes t)
  unfolding back_of
  refused_leaves r p z =
      let e : ending bytes t ≡ refused (number_of r.reason) r.place = ending_judged ∙ ap (passing t) (sym p) in
      rw e (record { answer = refl; types = z })

-- READING that ended at tables: they are ready to be judged, and what is made of them is what `read_answer` makes
module _ {tw cw : ℕ} {u w : List ℕ} (s : List ℕ) where
  module _ {read : Read} (l : Reads.Left tw cw (Std.Ok read) u w (read_records Records.answer (caps_of tw cw) s)) where
    finished : Finished tw cw u w read.given read.types read.nodes (read_records Records.answer (caps_of tw cw) s)
    finished = answer_done (read_records Records.answer (caps_of tw cw) s) l

    through : Through (caps_of tw cw) s finished.tables
    through = ends_ok (subst (Ends _ _) finished.is (reads Records.answer s refl (caps_of_small tw cw)))

    pub file_ready : Ready u read.types read.given
    file_ready = let r = held_ready finished.held through.read in record { inside = r.types_inside; listed = r.defs_inside; given = ready_given r.read; few = ready_few r.read }

    file_ends : ending (length s) finished.tables ≡ read_answer (caps_of tw cw) s
    unfolding read_answer ending
    file_ends = rw finished.is

    pub file_settled : {r : Std.Result Back Refusal} {v : List ℕ} → length u ≡ tw → Settled (length s) read u r v → Left tw r v (read_answer (caps_of tw cw) s)
    file_settled {r} {v} k h =
        let f = finished.held in
        let holds : Holds u read finished.tables = record { words = f.types ∙ ap (λ (n : ℕ). padded n (table_words finished.tables.types)) (sym k); entries = f.entries; is = f.given; named = answer_ended finished.is l } in
        subst (λ (n : ℕ). Left n r v (read_answer (caps_of tw cw) s)) k (subst (Left (length u) r v) file_ends (h.leaves finished.tables holds))

  pub file_stopped : (r : Refusal) → Reads.Left tw cw (Std.Err r) u w (read_records Records.answer (caps_of tw cw) s) → Left tw (Std.Err r) u (read_answer (caps_of tw cw) s)
  unfolding read_answer back_of
  file_stopped r l =
      let e = answer_refused (read_records Records.answer (caps_of tw cw) s) l in
      rw e (record { answer = refl; types = l.types ∙ ap (read_types tw) e })
