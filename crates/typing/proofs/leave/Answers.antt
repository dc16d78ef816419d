-- `typing::leave` meets its contract, one kind of query at a time.
-- Assumes nothing.
use Rattle.std.specs.Prelude as Std
use Rattle.std.proofs.lemmas.Result.{err_from_is_err_and}
use Rattle.queries.specs.declared.Query.TheVariants as Query
use Rattle.queries.proofs.Named.{element_low, pair_low, for_low, let_low}
use Rattle.typing.proofs.Turning.{element_done, when_done}
use Rattle.typing.proofs.Returning.{back_low, back_kept, back_turns, back_asked, back_done, back_leaf}
use Rattle.typing.proofs.leave.Goals as goal

pub returns-in_err-made-in-Element : goal.returns-in_err-made-in-Element
returns-in_err-made-in-Element c =
    let F = c.requires.framed in
    let x = err_from_is_err_and c.from_residual.result c.from_residual.ensures.1 in
    let l = element_low _ F.lowers (back_low F c.from-n.ensures) c.read_query-query.ensures c.in-Element.is in
    rw (x.1, x.2) (back_done F c.from-n.ensures c.read_query-query.ensures (Query.Element _ _) c.in-Element.is (Std.Err _) (element_done _ _ _ _ _ _ _ _ F.begins F.there _ _ _ l.0 l.1 c.in_err-made-in-Element.ensures))

pub returns-in_ok-made-in-Element : goal.returns-in_ok-made-in-Element
returns-in_ok-made-in-Element c =
    let F = c.requires.framed in
    let l = element_low _ F.lowers (back_low F c.from-n.ensures) c.read_query-query.ensures c.in-Element.is in
    back_done F c.from-n.ensures c.read_query-query.ensures (Query.Element _ _) c.in-Element.is (Std.Ok _) (element_done _ _ _ _ _ _ _ _ F.begins F.there _ _ _ l.0 l.1 c.in_ok-made-in-Element.ensures)

pub returns-in-Pair : goal.returns-in-Pair
returns-in-Pair c =
    let F = c.requires.framed in
    let a = back_asked F c.from-n.ensures c.read_query-query.ensures (Query.Pair _ _) c.in-Pair.is in
    back_turns F c.from-n.ensures (c.paired.ensures _ _ _ _ a (pair_low _ F.lowers (back_low F c.from-n.ensures) c.read_query-query.ensures c.in-Pair.is).1 (back_kept F c.from-n.ensures a) F.there F.begins)

pub each-requires-clause-few : goal.each-requires-clause-few
each-requires-clause-few c =
    (for_low _ c.requires.framed.lowers (back_low c.requires.framed c.from-n.ensures) c.read_query-query.ensures c.in-For.is).0

pub returns-in-For : goal.returns-in-For
returns-in-For c =
    let F = c.requires.framed in
    back_turns F c.from-n.ensures (c.each.ensures _ _ (back_asked F c.from-n.ensures c.read_query-query.ensures (Query.For _ _ _) c.in-For.is) (for_low _ F.lowers (back_low F c.from-n.ensures) c.read_query-query.ensures c.in-For.is).2)

pub named-requires-clause-low : goal.named-requires-clause-low
named-requires-clause-low c =
    (let_low _ c.requires.framed.lowers (back_low c.requires.framed c.from-n.ensures) c.read_query-query.ensures c.in-Let.is).0

pub returns-in-Let : goal.returns-in-Let
returns-in-Let c =
    let F = c.requires.framed in
    back_turns F c.from-n.ensures (c.named.ensures _ _ _ _ _ (back_asked F c.from-n.ensures c.read_query-query.ensures (Query.Let _ _ _) c.in-Let.is) (let_low _ F.lowers (back_low F c.from-n.ensures) c.read_query-query.ensures c.in-Let.is).2 F.begins F.there)

pub returns-in_err-made-in-When : goal.returns-in_err-made-in-When
returns-in_err-made-in-When c =
    let F = c.requires.framed in
    let x = err_from_is_err_and c.from_residual-in_err-made-in-When.result c.from_residual-in_err-made-in-When.ensures.1 in
    rw (x.1, x.2) (back_done F c.from-n.ensures c.read_query-query.ensures (Query.When _ _) c.in-When.is (Std.Err _) (when_done _ _ _ _ _ _ _ _ F.begins F.there _ _ _ c.in_err-made-in-When.ensures))

pub returns-in_ok-made-in-When : goal.returns-in_ok-made-in-When
returns-in_ok-made-in-When c =
    let F = c.requires.framed in
    back_done F c.from-n.ensures c.read_query-query.ensures (Query.When _ _) c.in-When.is (Std.Ok _) (when_done _ _ _ _ _ _ _ _ F.begins F.there _ _ _ c.in_ok-made-in-When.ensures)

pub returns-in-Nothing : goal.returns-in-Nothing
returns-in-Nothing c =
    back_leaf c.requires.framed c.from-n.ensures c.read_query-query.ensures c.in-Nothing.is
