-- `typing::paired` meets its contract.
-- Assumes nothing.
use Rattle.std.specs.Prelude as Std
use Rattle.std.proofs.lemmas.Result.{err_from_is_err_and}
use Rattle.typing.proofs.Turning.{turn_done, turn_second, pair_second, pair_done, one_less}
use native.Mathlib.Omega.{arith}
use Rattle.typing.proofs.paired.Goals as goal

pub returns-then-k-eq0 : goal.returns-then-k-eq0
returns-then-k-eq0 c =
    λ D C p s a l j low B. turn_second D _ _ _ _ _ _ _ _ a c.if-k-eq0.true l (pair_second D _ _ _ _ _ _ _ B low _ p _ c.if-k-eq0.true) c.go_on.ensures.comes (omega arith) c.go_on.ensures.keeps

pub returns-in_err-made : goal.returns-in_err-made
returns-in_err-made c =
    let x = err_from_is_err_and c.from_residual.result c.from_residual.ensures.1 in
    λ D C p s a l j low B. rw (x.1, x.2) (turn_done D _ _ _ _ _ _ _ _ a (Std.Err _) (pair_done D _ _ _ _ _ _ _ B low _ p _ _ (one_less c.if-k-eq0.false) j c.in_err-made.ensures))

pub returns : goal.returns
returns c =
    λ D C p s a l j low B. turn_done D _ _ _ _ _ _ _ _ a (Std.Ok _) (pair_done D _ _ _ _ _ _ _ B low _ p _ _ (one_less c.if-k-eq0.false) j c.in_ok-made.ensures)
