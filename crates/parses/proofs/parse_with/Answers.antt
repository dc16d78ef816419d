-- `parses::parse_with` meets its contract.
-- Assumes nothing.
use Rattle.std.proofs.lemmas.Result.{err_from_is_err_and}
use Rattle.parses.proofs.Finishing.{parse_not, parse_on, made_inside}
use Rattle.parses.proofs.parse_with.Goals as goal

pub finish-requires : goal.finish-requires
finish-requires c = made_inside c.in_ok-here.ensures

pub returns-in_err-here : goal.returns-in_err-here
returns-in_err-here c =
    let p = err_from_is_err_and c.from_residual.result c.from_residual.ensures.1 in
    rw (p.1, p.2) (parse_not c.in_err-here.ensures)

pub returns : goal.returns
returns c = parse_on c.in_ok-here.ensures c.finish.ensures
