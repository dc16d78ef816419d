-- The first 43,520 bytes of a job are enough: with the program's tables, running them is running the whole job, on any values, answer and refusal alike.
-- Assumes nothing.
use mathlib.Core.Path.{◌≡◌, ap}
use mathlib.Core.List.{List}
use Prim.Native.Nat.{ℕ}
use native.Mathlib.Nat.{le_refl}
use lib.ListN.{take}
use Rattle.meaning.specs.Base.{Out, ok, ◌>>=◌, caps_of, work_capacity}
use Rattle.meaning.specs.Forests.{size}
use Rattle.meaning.specs.Typing.{Typed, root}
use Rattle.meaning.specs.Values.{load_values, joined}
use Rattle.meaning.specs.Running.{eval, env_of, run_job}
use Rattle.meaning.proofs.Reading.{caps_of_small}
use Rattle.meaning.proofs.Jobs.{prefix_typing}

pub first_bytes_suffice : (job values : List ℕ) → run_job (caps_of 12288 4096) (work_capacity 24576) (take 43520 job) values ≡ run_job (caps_of 12288 4096) (work_capacity 24576) job values
unfolding run_job
first_bytes_suffice job values =
    ap
    (λ (o : Out Typed). o >>= λ t. load_values (work_capacity 24576) t.job.vars values >>= λ vs. eval (work_capacity 24576) (root t.job) (env_of vs) (size (joined vs)) >>= λ g. ok (record { typed = t; loaded = joined vs; result = g }))
    (prefix_typing (caps_of_small 12288 4096) 43520 (le_refl 43520) job)
