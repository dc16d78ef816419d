-- THE ROUND TRIP: what `answer_job` leaves in its buffer, read by `read_answer` into any table, gives the same entries, definitions, result and count; a
-- table without room for them gives refusal 5 at the first record without room.
-- Assumes nothing.
use mathlib.Core.Path.{◌≡◌, refl, ap, sym, ◌∙◌}
use mathlib.Core.List.{List}
use Prim.Native.Nat.{ℕ, ◌*◌, ◌-◌, ◌≤◌, ◌<◌}
use native.Mathlib.Omega.{arith}
use lib.ListN.{length, take, drop}
use lib.Seq.{take_at, drop_at}
use Rattle.meaning.specs.Base.{Out, ok, refused, ◌>>=◌, concat_map, zeros, padded, type_width, type_capacity, caps_of}
use Rattle.meaning.specs.Types.{Table, entry_words, table_words}
use Rattle.meaning.specs.Typing as Typing
use Rattle.meaning.specs.Typing.{type_job, read_types}
use Rattle.meaning.specs.Answers as Answers
use Rattle.meaning.specs.Answers.{answer_job, type_record, back_tables, read_answer}
use Rattle.meaning.proofs.Reading.{caps_of_small}
use Rattle.meaning.proofs.RoundTrip as Laws
use Rattle.meaning.proofs.RoundTrip.{typed_back, typed_no_room}
use Rattle.words.specs.Tables.{table_of}
use Rattle.words.proofs.Rows.{rows_length}
use Rattle.words.proofs.Tables.{entry_wide, table_lent}
use Rattle.answers.proofs.Back.{Fitted, fits, short, fitted_is, file_of, job_answered_lem}
use Rattle.std.specs.Prelude.{Result, Ok, Err}
use Rattle.refusals.specs.declared.Reason.{Reason}
use Rattle.refusals.specs.declared.Refusal.{Refusal}
use Rattle.refusals.proofs.Told.{told_ok, told_same}
use Rattle.reading.specs.declared.Given.{Given}
use Rattle.answered.specs.declared.Answered.{Answered}
use Rattle.answered.specs.Says.{seen, answered_of}
use Rattle.back.specs.declared.Back.{Back}
use Rattle.back.specs.Says as Backs
use Rattle.back.specs.Says.{back_of}
use Rattle.emberstitch.specs.Promises.{AnswerJob, ReadAnswer}

unanswered : (tw cw room : ℕ) {n place : ℕ} (s : List ℕ) → type_job (caps_of tw cw) s ≡ refused n place → answer_job (caps_of tw cw) room s ≡ refused n place
unfolding answer_job
unanswered tw cw room s e = rw e

-- an answer's file is that of its typing
answered_typed : (tw cw room : ℕ) (s : List ℕ) (a : Answers.Answered) (o : Out Typing.Typed) → type_job (caps_of tw cw) s ≡ o → answer_job (caps_of tw cw) room s ≡ ok a → (type_job (caps_of tw cw) s ≡ ok a.typed) × (a.file ≡ file_of a.typed)
answered_typed tw cw room s a (ok t) e p = go (fitted_is room (file_of t)) (sym (job_answered_lem (caps_of tw cw) s t e room) ∙ p)
  where
    go : {o : Out (List ℕ)} → Fitted room (file_of t) o → ◌≡◌ {A = Out Answers.Answered} (o >>= λ f. ok (record { typed = t; file = f })) (ok a) → (type_job (caps_of tw cw) s ≡ ok a.typed) × (a.file ≡ file_of a.typed)
    go (fits h) q =
        let same : ◌≡◌ {A = Answers.Answered} (record { typed = t; file = file_of t }) a = cc in
        (e ∙ ap (λ (x : Answers.Answered). ok x.typed) same, sym (ap (λ (x : Answers.Answered). x.file) same) ∙ ap (λ (x : Answers.Answered). file_of x.typed) same)
    go (short h) q = let z : ◌≡◌ {A = ℕ} 0 1 = cc in absurd (omega arith)
answered_typed tw cw room s a (refused n place) e p =
    let q : ◌≡◌ {A = Out Answers.Answered} (refused n place) (ok a) = sym (unanswered tw cw room s e) ∙ p in
    let z : ◌≡◌ {A = ℕ} 0 1 = cc in
    absurd (omega arith)

-- the file that was read back is the one that was written
pub record Returns (r : Answered) (u : List ℕ) (again : ℕ) (r₁ : Result Back Refusal) (v : List ℕ) : Type 0 where
  pub back : Back
  pub answer : r₁ ≡ Ok back
  pub result : back.result ≡ r.result
  pub types : back.types ≡ r.types
  pub defs : back.given.defs ≡ r.given.defs
  pub used : back.given.used ≡ r.given.used
  pub entries : take (type_width * r.types) v ≡ take (type_width * r.types) u
  pub rest : drop (type_width * r.types) v ≡ zeros (again - type_width * r.types)

module _ {job u w b : List ℕ} {types query bytes : ℕ} {r : Answered} (p : AnswerJob job types query bytes (Ok r) u w b) where
  -- what was answered
  accepted : (o : Out Answers.Answered) → answer_job (caps_of types query) bytes job ≡ o → (a : Answers.Answered) × ((answer_job (caps_of types query) bytes job ≡ ok a) × (r ≡ seen a))
  unfolding answered_of
  accepted (ok a) i =
      let j : ◌≡◌ {A = Out Answered} (ok r) (ok (seen a)) = p.answer ∙ ap answered_of i in
      (a, (i, cc))
  accepted (refused m place) i =
      let j : ◌≡◌ {A = Out Answered} (ok r) (refused m place) = p.answer ∙ ap answered_of i in
      cc

  abbrev told : Answers.Answered
  told = (accepted (answer_job (caps_of types query) bytes job) refl).0

  abbrev is : answer_job (caps_of types query) bytes job ≡ ok told
  is = (accepted (answer_job (caps_of types query) bytes job) refl).1.0

  abbrev shown : r ≡ seen told
  shown = (accepted (answer_job (caps_of types query) bytes job) refl).1.1

  length_is : r.length ≡ length told.file
  length_is = ap (λ (x : Answered). x.length) shown

  types_are : r.types ≡ length told.typed.left.types
  types_are = ap (λ (x : Answered). x.types) shown

  typing : (type_job (caps_of types query) job ≡ ok told.typed) × (told.file ≡ file_of told.typed)
  typing = answered_typed types query bytes job told (type_job (caps_of types query) job) refl is

  -- the first bytes of the buffer are the file
  file_is : take r.length b ≡ file_of told.typed
  file_is = ap (take r.length) (p.answer_left ∙ ap (Answers.answer_bytes bytes) is) ∙ take_at told.file (zeros (bytes - length told.file)) r.length (sym length_is) ∙ typing.1

  table_is : u ≡ padded types (table_words told.typed.left.types)
  table_is = p.types_left ∙ ap (λ (o : Out Answers.Answered). Typing.typed_types types (Answers.typed_of o)) is

  -- a table's words: its entries, then zeros
  words_long : length (table_words told.typed.left.types) ≡ type_width * r.types
  words_long = omega (arith, rows_length entry_words type_width entry_wide told.typed.left.types, types_are)

  module _ {again : ℕ} {r₁ : Result Back Refusal} {v : List ℕ} (back : ReadAnswer (take r.length b) again r₁ v) where
    -- ROOM FOR THE ENTRIES: all of it comes back
    pub round_trip : r.types ≤ type_capacity again → Returns r u again r₁ v
    unfolding back_of
    round_trip room =
        let written : Answers.Back = Laws.back_of told.typed.left.types told.typed.job.defs told.typed.result in
        let read : read_answer (caps_of again 0) (take r.length b) ≡ ok written
        = ap (read_answer (caps_of again 0)) file_is ∙ typed_back (caps_of_small types query) job told.typed typing.0 (caps_of again 0) (omega (arith, room, types_are)) in
        let given : r.given ≡ (seen told).given = ap (λ (x : Answered). x.given) shown in
        let left : v ≡ padded again (table_words told.typed.left.types) = back.types_left ∙ ap (λ (o : Out Answers.Back). read_types again (back_tables o)) read in
        record {
          back = Backs.seen written;
          answer = told_ok r₁ (back.answer ∙ ap back_of read);
          result = sym (ap (λ (x : Answered). x.result) shown);
          types = sym types_are;
          defs = sym (ap (λ (g : Given). g.defs) given);
          used = sym (ap (λ (g : Given). g.used) given);
          entries = ap (take (type_width * r.types)) left ∙ take_at (table_words told.typed.left.types) _ (type_width * r.types) words_long ∙ sym (ap (take (type_width * r.types)) table_is ∙ take_at (table_words told.typed.left.types) _ (type_width * r.types) words_long);
          rest = ap (drop (type_width * r.types)) left ∙ drop_at (table_words told.typed.left.types) _ (type_width * r.types) words_long ∙ ap (λ (m : ℕ). zeros (again - m)) words_long;
        }

    -- TOO FEW WORDS: 5 at the first record without room, and the table is zero
    pub no_room : 2 ≤ type_capacity again → type_capacity again < r.types
        → (r₁ ≡ Err (record { reason = Reason.TooMany; place = length (concat_map type_record (take (type_capacity again - 2) (drop 2 (table_of u r.types)))) })) × (v ≡ zeros again)
    unfolding back_of
    no_room two few =
        let read : read_answer (caps_of again 0) (take r.length b) ≡ refused 5 (length (concat_map type_record (take (type_capacity again - 2) (drop 2 told.typed.left.types))))
        = ap (read_answer (caps_of again 0)) file_is ∙ typed_no_room (caps_of_small types query) job told.typed typing.0 (caps_of again 0) two (omega (arith, few, types_are)) in
        let same : table_of u r.types ≡ told.typed.left.types = ap (table_of u) types_are ∙ ap (λ (ws : List ℕ). table_of ws (length told.typed.left.types)) table_is ∙ table_lent types told.typed.left.types in (
          told_same r₁ (Err (record { reason = Reason.TooMany; place = length (concat_map type_record (take (type_capacity again - 2) (drop 2 (table_of u r.types)))) }))
              (back.answer ∙ ap back_of read ∙ sym (ap (λ (T : Table). refused 5 (length (concat_map type_record (take (type_capacity again - 2) (drop 2 T))))) same)),
          back.types_left ∙ ap (λ (o : Out Answers.Back). read_types again (back_tables o)) read,
        )
