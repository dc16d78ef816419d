-- `words::copy` meets its contract: the library copies to the front. Assumes nothing.
use mathlib.Core.Path.{ap, ◌∙◌}
use mathlib.Core.List.{List, ◌++◌}
use Prim.Native.Nat.{ℕ, ◌+◌}
use native.Mathlib.Omega.{arith}
use lib.ListN.{length, drop}
use Rattle.words.specs.Tables.{stored}
use Rattle.words.proofs.copy.Goals as goal

pub returns : goal.returns
unfolding stored
returns c =
    ap (λ (x : List ℕ). x ++ drop (length c.args.from.now) c.args.to.now) c.copy_from_slice.ensures.after
    ∙ ap (λ (n : ℕ). c.args.from.now ++ drop n c.args.to.now) {x = length c.args.from.now} {y = 0 + length c.args.from.now} (omega arith)
