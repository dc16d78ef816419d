-- How long an answer is at most: with a buffer of so many bytes 17 is never given.
-- Assumes nothing.
use mathlib.Core.Path.{sym, subst}
use mathlib.Core.List.{List}
use Prim.Native.Nat.{ℕ, ◌/◌, ◌≤◌}
use native.Mathlib.Omega.{arith}
use lib.ListN.{length}
use Rattle.meaning.specs.Base.{Out, ok, ◌>>=◌}
use Rattle.meaning.specs.Typing as Typing
use Rattle.meaning.specs.Answers as Answers
use Rattle.meaning.specs.Answers.{answer_job, full}
use Rattle.meaning.proofs.Ends.{Ends, gives, stops, ends_by, ends_bind}
use Rattle.meaning.proofs.Jobs.{TypedWell, type_refuses}
use Rattle.meaning.proofs.Reading.{caps_of_small}
use Rattle.meaning.proofs.FileLength.{file_short}
use Rattle.answers.proofs.Back.{Fitted, fits, short, fitted_is, file_of}
use Rattle.emberstitch.specs.Promises.{Call}
use Rattle.emberstitch.proofs.Calls.{tells, call_tells}

-- 8 bytes for each of 4,096 entries, 6 for each of 64 definitions, 6 for record 80
unfoldable pub longest : ℕ
longest = 33158

file_most : {t : Typing.Typed} → TypedWell full t → length (file_of t) ≤ longest
unfolding longest
file_most {t} w = omega (arith, file_short t.left.types t.job.defs t.result, w.grown.fits, w.accepted.formed.few_defs)

pub answer_longest : (room : ℕ) (s : List ℕ) → longest ≤ room → Ends (λ (a : Answers.Answered). length a.file ≤ longest) (λ n p. n ≤ 16) (answer_job full room s)
unfolding answer_job
answer_longest room s enough = ends_bind (ends_by (type_refuses s (caps_of_small 12288 4096)) (λ n p r. r.most)) λ t w. fit w (fitted_is room (file_of t))
  where
    fit : {t : Typing.Typed} {o : Out (List ℕ)} → TypedWell full t → Fitted room (file_of t) o → Ends (λ (a : Answers.Answered). length a.file ≤ longest) (λ n p. n ≤ 16) (o >>= λ f. ok (record { typed = t; file = f }))
    fit {t} w (fits h) = gives {a = record { typed = t; file = file_of t }} (file_most w)
    fit {t} w (short h) = absurd (omega (arith, h, file_most w, enough))

told_most : {o : Out Answers.Answered} → Ends (λ (a : Answers.Answered). length a.file ≤ longest) (λ n p. n ≤ 16) o → (tells o).0 ≤ 16
told_most (gives h) = omega arith
told_most (stops h) = h

-- THE C CALL with a buffer that is long enough for any answer: accepted (0), or refused by 1 to 16
pub never_short : {job b : List ℕ} {bytes r : ℕ} → Call job bytes r b → longest ≤ bytes → r / 4294967296 ≤ 16
never_short {job} {bytes = bytes} p enough = subst (λ (n : ℕ). n ≤ 16) (sym (call_tells p).0) (told_most (answer_longest bytes job enough))
