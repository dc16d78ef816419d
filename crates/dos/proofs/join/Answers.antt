-- `dos::join` meets its contract: the unions, then their star. Assumes nothing.
use Rattle.std.proofs.lemmas.Result.{err_from_is_err_and}
use mathlib.Core.Path.{refl}
use Rattle.dos.proofs.Rule.{star_full, star_done}
use Rattle.dos.proofs.join.Goals as goal

pub returns-in_err-all : goal.returns-in_err-all
returns-in_err-all c =
    λ D R.
    let p = err_from_is_err_and c.from_residual.result c.from_residual.ensures.1 in
    rw (p.1, p.2) (star_full _ _ _ _ (c.in_err-all.ensures D R) refl)

pub returns : goal.returns
returns c =
    λ D R. star_done _ _ _ _ (c.in_ok-all.ensures D R) refl c.words-star.ensures c.append.ensures
