-- What the writer leaves is what answering a job leaves, once the job is typed; and it is read back.
-- Assumes nothing.
use mathlib.Core.Path.{◌≡◌, refl, ap, ◌∙◌}
use mathlib.Core.Bool.{Bool, true, false}
use mathlib.Core.List.{List}
use Prim.Native.Nat.{ℕ, ◌-◌, ◌≤◌, ◌<◌}
use lib.Dec.{leb}
use lib.ListN.{length, take}
use lib.Seq.{take_at}
use borrow.Author.Tests.{leb-true, leb-false}
use Rattle.meaning.specs.Base.{Out, ok, refused, ◌>>=◌, require, zeros, Caps}
use Rattle.meaning.specs.Typing.{Typed, type_job}
use Rattle.meaning.specs.Answers.{answer_file, fitted, answer_job}
use Rattle.std.specs.Prelude as Std
use Rattle.answers.specs.Says.{Left}

-- a file that fits a buffer of so many bytes, or 17
pub data Fitted (room : ℕ) (file : List ℕ) : Out (List ℕ) → Type 0 where
  fits : length file ≤ room → Fitted room file (ok file)
  short : room < length file → Fitted room file (refused 17 (length file))

pub fitted_is : (room : ℕ) (file : List ℕ) → Fitted room file (fitted room file)
fitted_is room file = go (leb (length file) room) refl
  where
    go : (b : Bool) → leb (length file) room ≡ b → Fitted room file (require b 17 (length file) >>= λ _. ok file)
    go true e = fits (leb-true (length file) room e)
    go false e = short (leb-false (length file) room e)

-- a writer that says so many bytes has put the file there
pub written : {room n : ℕ} {file buffer : List ℕ} {o : Out (List ℕ)} → Fitted room file o → Left room (Std.Ok n) buffer o → take n buffer ≡ file
written {room} {n} {file} (fits h) l =
    let same : length file ≡ n = cc (l.answer) in
    ap (take n) l.bytes ∙ take_at file (zeros (room - length file)) n same
written (short h) l = cc (l.answer)

-- A TYPED JOB is answered by its file
abbrev pub file_of : Typed → List ℕ
file_of t = answer_file t.left.types t.job.defs t.result

module _ (caps : Caps) (s : List ℕ) (t : Typed) (typed : type_job caps s ≡ ok t) (room : ℕ) where
  pub job_answered_lem : answer_job caps room s ≡ (fitted room (file_of t) >>= λ f. ok (record { typed = t; file = f }))
  unfolding answer_job
  job_answered_lem = rw typed
