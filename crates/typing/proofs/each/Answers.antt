-- `typing::each` meets its contract: after its body the variable is unbound and U.q comes; after its source 14 stops it, or prime comes.
-- Assumes nothing.
use Rattle.std.specs.Prelude as Std
use Rattle.std.proofs.lemmas.Result.{err_from_is_err_and}
use Rattle.typing.proofs.Turning.{turn_done, for_stops, for_done, freed_turns, one_less}
use Rattle.typing.proofs.each.Goals as goal

pub returns-in_err-made : goal.returns-in_err-made
returns-in_err-made c =
    let x = err_from_is_err_and c.from_residual.result c.from_residual.ensures.1 in
    λ C p a l. rw (x.1, x.2) (turn_done _ _ _ _ _ _ _ _ _ a (Std.Err _) (for_done _ _ _ _ _ _ _ _ c.requires.begins c.requires.low _ _ p _ _ (one_less c.if-k-ne0.true) c.from.ensures c.clear.ensures c.in_err-made.ensures))

pub returns-then-k-ne0 : goal.returns-then-k-ne0
returns-then-k-ne0 c =
    λ C p a l. turn_done _ _ _ _ _ _ _ _ _ a (Std.Ok _) (for_done _ _ _ _ _ _ _ _ c.requires.begins c.requires.low _ _ p _ _ (one_less c.if-k-ne0.true) c.from.ensures c.clear.ensures c.in_ok-made.ensures)

pub returns-in_err-source : goal.returns-in_err-source
returns-in_err-source c =
    let x = err_from_is_err_and c.from_residual-in_err-source.result c.from_residual-in_err-source.ensures.1 in
    λ C p a l. rw (x.1, x.2) (turn_done _ _ _ _ _ _ _ _ _ a (Std.Err _) (for_stops _ _ _ _ _ _ _ _ c.requires.begins c.requires.low _ _ p _ c.if-k-ne0.false c.in_err-source.ensures))

pub returns : goal.returns
returns c =
    λ C p a l. freed_turns c.in_ok-source.ensures c.if-k-ne0.false (c.primed.ensures C p a l)
