-- The first 43,520 bytes of a job are enough: with the program's tables, typing them is typing the whole job, answer and refusal alike.
-- Assumes nothing.
use mathlib.Core.Path.{◌≡◌}
use mathlib.Core.List.{List}
use Prim.Native.Nat.{ℕ}
use native.Mathlib.Nat.{le_refl}
use lib.ListN.{take}
use Rattle.meaning.specs.Base.{caps_of}
use Rattle.meaning.specs.Typing.{type_job}
use Rattle.meaning.proofs.Reading.{caps_of_small}
use Rattle.meaning.proofs.Jobs.{prefix_typing}

pub first_bytes_suffice : (job : List ℕ) → type_job (caps_of 12288 4096) (take 43520 job) ≡ type_job (caps_of 12288 4096) job
first_bytes_suffice job = prefix_typing (caps_of_small 12288 4096) 43520 (le_refl 43520) job
