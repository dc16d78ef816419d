-- UNIQUENESS: two outcomes that keep the same promise are the same, answer and final contents.
-- Assumes nothing.
use mathlib.Core.Path.{◌≡◌, sym, ◌∙◌}
use mathlib.Core.List.{List}
use Prim.Native.Nat.{ℕ}
use Rattle.std.specs.Prelude.{Result}
use Rattle.refusals.specs.declared.Refusal.{Refusal}
use Rattle.refusals.proofs.Told.{told_same}
use Rattle.jobs.specs.declared.Job.{Job}
use Rattle.typed.specs.declared.Typed.{Typed}
use Rattle.answered.specs.declared.Answered.{Answered}
use Rattle.back.specs.declared.Back.{Back}
use Rattle.ran.specs.declared.Ran.{Ran}
use Rattle.texts.specs.declared.Text.{Text}
use Rattle.emberstitch.specs.Promises.{ReadJob, TypeJob, AnswerJob, ReadAnswer, RunJob, ParseText, WriteText, Call}

pub read_job_once : {job : List ℕ} {types query : ℕ} {r r₁ : Result Job Refusal} {u u₁ w w₁ : List ℕ} → ReadJob job types query r u w → ReadJob job types query r₁ u₁ w₁ → (r ≡ r₁) × (u ≡ u₁) × (w ≡ w₁)
read_job_once {r = r} {r₁} p q = (told_same r r₁ (p.answer ∙ sym q.answer), p.types_left ∙ sym q.types_left, p.query_left ∙ sym q.query_left)

pub type_job_once : {job : List ℕ} {types query : ℕ} {r r₁ : Result Typed Refusal} {u u₁ w w₁ : List ℕ} → TypeJob job types query r u w → TypeJob job types query r₁ u₁ w₁ → (r ≡ r₁) × (u ≡ u₁) × (w ≡ w₁)
type_job_once {r = r} {r₁} p q = (told_same r r₁ (p.answer ∙ sym q.answer), p.types_left ∙ sym q.types_left, p.query_left ∙ sym q.query_left)

pub answer_job_once : {job : List ℕ} {types query bytes : ℕ} {r r₁ : Result Answered Refusal} {u u₁ w w₁ b b₁ : List ℕ} → AnswerJob job types query bytes r u w b → AnswerJob job types query bytes r₁ u₁ w₁ b₁ → (r ≡ r₁) × (u ≡ u₁) × (w ≡ w₁) × (b ≡ b₁)
answer_job_once {r = r} {r₁} p q = (told_same r r₁ (p.answer ∙ sym q.answer), p.types_left ∙ sym q.types_left, p.query_left ∙ sym q.query_left, p.answer_left ∙ sym q.answer_left)

pub read_answer_once : {file : List ℕ} {types : ℕ} {r r₁ : Result Back Refusal} {u u₁ : List ℕ} → ReadAnswer file types r u → ReadAnswer file types r₁ u₁ → (r ≡ r₁) × (u ≡ u₁)
read_answer_once {r = r} {r₁} p q = (told_same r r₁ (p.answer ∙ sym q.answer), p.types_left ∙ sym q.types_left)

pub run_job_once : {job values : List ℕ} {types query work : ℕ} {r r₁ : Result Ran Refusal} {u u₁ w w₁ x x₁ : List ℕ} → RunJob job values types query work r u w x → RunJob job values types query work r₁ u₁ w₁ x₁ → (r ≡ r₁) × (u ≡ u₁) × (w ≡ w₁) × (x ≡ x₁)
run_job_once {r = r} {r₁} p q = (told_same r r₁ (p.answer ∙ sym q.answer), p.types_left ∙ sym q.types_left, p.query_left ∙ sym q.query_left, p.work_left ∙ sym q.work_left)

pub call_once : {job : List ℕ} {bytes r r₁ : ℕ} {b b₁ : List ℕ} → Call job bytes r b → Call job bytes r₁ b₁ → (r ≡ r₁) × (b ≡ b₁)
call_once p q = (p.number ∙ sym q.number, p.answer_left ∙ sym q.answer_left)

pub parse_text_once : {text : List ℕ} {bytes : ℕ} {r r₁ : Result ℕ Refusal} {b b₁ : List ℕ} → ParseText text bytes r b → ParseText text bytes r₁ b₁ → (r ≡ r₁) × (b ≡ b₁)
parse_text_once {r = r} {r₁} p q = (told_same r r₁ (p.answer ∙ sym q.answer), p.section_left ∙ sym q.section_left)

pub write_text_once : {job : List ℕ} {types query bytes : ℕ} {r r₁ : Result Text Refusal} {u u₁ w w₁ b b₁ : List ℕ} → WriteText job types query bytes r u w b → WriteText job types query bytes r₁ u₁ w₁ b₁ → (r ≡ r₁) × (u ≡ u₁) × (w ≡ w₁) × (b ≡ b₁)
write_text_once {r = r} {r₁} p q = (told_same r r₁ (p.answer ∙ sym q.answer), p.types_left ∙ sym q.types_left, p.query_left ∙ sym q.query_left, p.text_left ∙ sym q.text_left)
