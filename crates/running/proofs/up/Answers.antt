-- `running::up` meets its contract, one kind of query at a time.
-- Assumes nothing.
use mathlib.Core.Path.{refl}
use Rattle.queries.specs.declared.Query.TheVariants as Query
use Rattle.queries.proofs.Named.{pair_low, for_low, let_low}
use Rattle.running.proofs.Returning.{said, says_query, element_space, element_up, done_up, returns_low, other_up}
use native.Mathlib.Omega.{arith}
use borrow.Enum.Refused.{opened}
use Rattle.running.proofs.up.Goals as goal

pub wrap-requires : goal.wrap-requires
wrap-requires c =
    element_space c.requires.back.returns (says_query c.requires.back.returns c.from.ensures c.read_query-query.ensures (Query.Element _ _) c.in-Element.is)

pub overflow_add-result : goal.overflow_add-result
overflow_add-result c =
    omega (arith, returns_low c.requires.back.returns)

pub paired-requires-clause-few : goal.paired-requires-clause-few
paired-requires-clause-few c =
    returns_low c.requires.back.returns

pub each-requires-clause-variable : goal.each-requires-clause-variable
each-requires-clause-variable c =
    (for_low _ c.requires.back.returns.given.lowers c.requires.back.returns.given.low (said c.requires.back.returns c.from.ensures c.read_query-query.ensures) c.in-For.is).0

pub each-requires-clause-waits : goal.each-requires-clause-waits
each-requires-clause-waits c =
    record { code = _; back = c.requires.back; first = _; is = says_query c.requires.back.returns c.from.ensures c.read_query-query.ensures (Query.For _ _ _) c.in-For.is; low = (for_low _ c.requires.back.returns.given.lowers c.requires.back.returns.given.low (said c.requires.back.returns c.from.ensures c.read_query-query.ensures) c.in-For.is).2 }

pub named-requires-clause-variable : goal.named-requires-clause-variable
named-requires-clause-variable c =
    (let_low _ c.requires.back.returns.given.lowers c.requires.back.returns.given.low (said c.requires.back.returns c.from.ensures c.read_query-query.ensures) c.in-Let.is).0

pub named-requires-clause-waits : goal.named-requires-clause-waits
named-requires-clause-waits c =
    record { code = _; back = c.requires.back; first = _; is = says_query c.requires.back.returns c.from.ensures c.read_query-query.ensures (Query.Let _ _ _) c.in-Let.is; low = (let_low _ c.requires.back.returns.given.lowers c.requires.back.returns.given.low (said c.requires.back.returns c.from.ensures c.read_query-query.ensures) c.in-Let.is).2 }

pub returns-in-Element : goal.returns-in-Element
returns-in-Element c =
    λ b. done_up b.returns (element_up b.returns (says_query b.returns c.from.ensures c.read_query-query.ensures (Query.Element _ _) c.in-Element.is) c.wrap.ensures c.wrap.auto.rest) c.from-in-Element.ensures refl refl

pub returns-in-Pair : goal.returns-in-Pair
returns-in-Pair c =
    λ b.
    let r = b.returns in
    c.paired.ensures _ _ _ (record { code = _; back = b; first = _; is = says_query r c.from.ensures c.read_query-query.ensures (Query.Pair _ _) c.in-Pair.is; low = (pair_low _ r.given.lowers r.given.low (said r c.from.ensures c.read_query-query.ensures) c.in-Pair.is).1 })

pub returns-in-For : goal.returns-in-For
returns-in-For c =
    λ b.
    let r = b.returns in
    c.each.ensures (record { code = _; back = b; first = _; is = says_query r c.from.ensures c.read_query-query.ensures (Query.For _ _ _) c.in-For.is; low = (for_low _ r.given.lowers r.given.low (said r c.from.ensures c.read_query-query.ensures) c.in-For.is).2 })

pub returns-in-Let : goal.returns-in-Let
returns-in-Let c =
    λ b.
    let r = b.returns in
    c.named.ensures (record { code = _; back = b; first = _; is = says_query r c.from.ensures c.read_query-query.ensures (Query.Let _ _ _) c.in-Let.is; low = (let_low _ r.given.lowers r.given.low (said r c.from.ensures c.read_query-query.ensures) c.in-Let.is).2 })

pub returns-in_default : goal.returns-in_default
returns-in_default c =
    λ b. other_up b.returns c.from.ensures c.read_query-query.ensures (opened c.in_default.in_default-own.keys5) refl refl
