-- `conditions::resume` meets its contract.
-- Assumes nothing.
use mathlib.Core.Path.{refl}
use Rattle.std.proofs.lemmas.Result.{err_from_is_err_and}
use Rattle.conditions.proofs.Resuming.{resumes_not, resumes_turn, resumes_close}
use Rattle.conditions.proofs.resume.Goals as goal

pub returns-in-Not : goal.returns-in-Not
returns-in-Not c = resumes_not c.in-Not.is refl c.requires.inside c.made.ensures

pub returns-in-First : goal.returns-in-First
returns-in-First c = resumes_turn c.in-First.is c.turn.ensures

pub returns-in_err-part-in-Second : goal.returns-in_err-part-in-Second
returns-in_err-part-in-Second c =
    let p = err_from_is_err_and c.from_residual.result c.from_residual.ensures.1 in
    rw (p.1, p.2) (resumes_close c.in-Second.is c.in_err-part-in-Second.ensures)

pub returns-in_ok-part-in-Second : goal.returns-in_ok-part-in-Second
returns-in_ok-part-in-Second c = resumes_close c.in-Second.is c.in_ok-part-in-Second.ensures
