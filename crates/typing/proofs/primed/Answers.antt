-- `typing::primed` meets its contract: prime stops it, or its body comes.
-- Assumes nothing.
use Rattle.std.specs.Prelude as Std
use Rattle.std.proofs.lemmas.Result.{err_from_is_err_and}
use mathlib.Core.Path.{refl}
use Rattle.words.proofs.Tables.{table_length}
use Rattle.typing.proofs.Turning.{turn_done, turn_second, prime_stops, for_second, class_few}
use native.Mathlib.Omega.{arith}
use Rattle.typing.proofs.primed.Goals as goal

pub returns-in_err-made : goal.returns-in_err-made
returns-in_err-made c =
    let x = err_from_is_err_and c.from_residual.result c.from_residual.ensures.1 in
    λ C p a l. rw (x.1, x.2) (turn_done _ _ _ _ _ _ _ _ _ a (Std.Err _) (prime_stops _ _ _ _ _ _ _ _ c.requires.begins c.requires.low _ _ p _ c.requires.free c.in_err-made.ensures refl refl))

pub overflow_add-class : goal.overflow_add-class
overflow_add-class c =
    omega (arith, class_few c.requires.begins c.requires.low)

pub returns : goal.returns
returns c =
    λ C p a l. turn_second _ _ _ _ _ _ _ _ _ a refl l (for_second _ _ _ _ _ _ _ _ c.requires.begins c.requires.low _ _ p _ c.requires.free c.in_ok-made.ensures _ refl (c.requires.begins.ready.filled.right _ (rw table_length c.requires.low)) c.from.ensures c.set.ensures) c.go_on.ensures.comes (omega arith) c.go_on.ensures.keeps
