-- `copies::append` meets its contract.
-- Assumes nothing.
use Rattle.std.proofs.lemmas.Result.{err_from_is_err_and}
use Rattle.copies.proofs.Filling.{behind_blank, behind_done, behind_full}
use Rattle.copies.proofs.Lent.{blank_self}
use Rattle.copies.specs.Fills.{done}
use Rattle.copies.proofs.append.Goals as goal

pub put-requires-clause-blank : goal.put-requires-clause-blank
put-requires-clause-blank c = blank_self _ (behind_blank c.requires.filled.1)

pub returns-in_err-k : goal.returns-in_err-k
returns-in_err-k c =
    let p = err_from_is_err_and c.from_residual.result c.from_residual.ensures.1 in
    rw (p.1, p.2) (λ f g e h. behind_full h _ (c.in_err-k.ensures f e))

pub returns : goal.returns
returns c = λ f g e h. done (behind_done h (c.in_ok-k.ensures f e))
