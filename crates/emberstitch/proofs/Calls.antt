-- The C call's number: places and lengths are below 2^32, so the number tells the answer apart from every other.
-- Assumes nothing.
use mathlib.Core.Path.{◌≡◌, ap, sym, ◌∙◌}
use mathlib.Core.List.{List}
use Prim.Native.Nat.{ℕ, ◌+◌, ◌*◌, ◌/◌, ◌%◌, ◌<◌}
use native.Mathlib.Omega.{arith}
use lib.ListN.{length}
use Rattle.meaning.specs.Base.{Out, ok, refused, ◌>>=◌, caps_of}
use Rattle.meaning.specs.Typing as Typing
use Rattle.meaning.specs.Answers as Answers
use Rattle.meaning.specs.Answers.{answer_job, full, packed}
use Rattle.meaning.proofs.Ends.{Ends, gives, stops, ends_by, ends_bind}
use Rattle.meaning.proofs.Jobs.{Listed, TypedWell, type_refuses}
use Rattle.meaning.proofs.Reading.{caps_of_small}
use Rattle.meaning.proofs.FileLength.{file_short}
use Rattle.answers.proofs.Back.{Fitted, fits, short, fitted_is, file_of}
use Rattle.std.specs.Prelude.{Result, Ok, Err}
use Rattle.refusals.specs.declared.Refusal.{Refusal}
use Rattle.refusals.specs.Says as Refusals
use Rattle.answered.specs.declared.Answered.{Answered}
use Rattle.answered.specs.Says.{seen, answered_of}
use Rattle.refusals.proofs.Told.{told_err}
use Rattle.emberstitch.specs.Promises as Promises
use Rattle.emberstitch.specs.Promises.{AnswerJob, Call, number_of}

-- HOW ANSWERING ENDS: with a file of under 2^32 bytes, or a refusal from 1 to 17 at a place below 2^32
abbrev Told : Out Answers.Answered → Type 0
Told o = Ends (λ (a : Answers.Answered). length a.file < 4294967296) (Listed 1 17) o

file_small : (tw cw : ℕ) {t : Typing.Typed} → TypedWell (caps_of tw cw) t → length (file_of t) < 4294967296
file_small tw cw {t} w = omega (arith, file_short t.left.types t.job.defs t.result, w.grown.fits, w.accepted.formed.few_defs, (caps_of_small tw cw).types)

pub answer_small : (tw cw room : ℕ) (s : List ℕ) → Told (answer_job (caps_of tw cw) room s)
unfolding answer_job
answer_small tw cw room s = ends_bind (ends_by (type_refuses s (caps_of_small tw cw)) (λ n p r. record { least = r.least; most = omega (arith, r.most); place = r.place })) λ t w. fit w (fitted_is room (file_of t))
  where
    fit : {t : Typing.Typed} {o : Out (List ℕ)} → TypedWell (caps_of tw cw) t → Fitted room (file_of t) o → Told (o >>= λ f. ok (record { typed = t; file = f }))
    fit {t} w (fits h) = gives {a = record { typed = t; file = file_of t }} (file_small tw cw w)
    fit {t} w (short h) = stops {n = 17} {p = length (file_of t)} (record { least = omega arith; most = omega arith; place = file_small tw cw w })

-- THE NUMBER of an answer is the outcome's, and fits
number_packed : (r : Result Answered Refusal) (o : Out Answers.Answered) → Refusals.told r ≡ answered_of o → number_of r ≡ packed o
unfolding answered_of
number_packed (Ok x) (ok a) e = let q : x ≡ seen a = cc in ap (λ (y : Answered). y.length) q
number_packed (Ok x) (refused n place) e = cc
number_packed (Err x) (ok a) e = cc
number_packed (Err x) (refused n place) e = let q = told_err x e in λ i. 4294967296 * q.0 i + q.1 i

told_small : (r : Result Answered Refusal) {o : Out Answers.Answered} → Refusals.told r ≡ answered_of o → Told o → Promises.Small r
unfolding answered_of
told_small (Ok x) e t = tt
told_small (Err x) e (gives h) = cc
told_small (Err x) e (stops h) = omega (arith, (told_err x e).1, h.place)

pub job_small : {job u w b : List ℕ} {types query bytes : ℕ} {r : Result Answered Refusal} → AnswerJob job types query bytes r u w b → Promises.Small r
job_small {job} {types = types} {query} {bytes} {r} p = told_small r p.answer (answer_small types query bytes job)

-- answering with tables of full capacity is the call
pub job_called : {job u w b : List ℕ} {bytes n : ℕ} {r : Result Answered Refusal} → AnswerJob job 12288 4096 bytes r u w b → n ≡ number_of r → Call job bytes n b
job_called {job} {bytes = bytes} {r = r} p e =
    record { number = e ∙ number_packed r (answer_job (caps_of 12288 4096) bytes job) p.answer; answer_left = p.answer_left }

-- IT TELLS THE ANSWER: 0 and the length, or the refusal and its place; so no two different answers have one number
abbrev pub tells : Out Answers.Answered → ℕ × ℕ
tells (ok a) = (0, length a.file)
tells (refused n place) = (n, place)

told_apart : (o : Out Answers.Answered) → Told o → (packed o / 4294967296 ≡ (tells o).0) × (packed o % 4294967296 ≡ (tells o).1)
told_apart (ok a) (gives h) = (omega arith, omega arith)
told_apart (refused n place) (stops h) = let l = h.place in (omega arith, omega arith)

module _ {job b : List ℕ} {bytes r : ℕ} (p : Call job bytes r b) where
  pub call_tells : (r / 4294967296 ≡ (tells (answer_job full bytes job)).0) × (r % 4294967296 ≡ (tells (answer_job full bytes job)).1)
  call_tells = let t = told_apart (answer_job full bytes job) (answer_small 12288 4096 bytes job) in (ap (λ (n : ℕ). n / 4294967296) p.number ∙ t.0, ap (λ (n : ℕ). n % 4294967296) p.number ∙ t.1)

-- one number, one answer
pub call_apart : {job job₁ b b₁ : List ℕ} {bytes bytes₁ r : ℕ} → Call job bytes r b → Call job₁ bytes₁ r b₁ → tells (answer_job full bytes job) ≡ tells (answer_job full bytes₁ job₁)
call_apart p q = let t = call_tells p in let u = call_tells q in λ i. ((sym t.0 ∙ u.0) i, (sym t.1 ∙ u.1) i)
