-- `typing::enter` meets its contract, one kind of query at a time.
-- Assumes nothing.
use Rattle.std.specs.Prelude as Std
use Rattle.std.proofs.lemmas.Result.{err_from_is_err_and}
use Rattle.queries.specs.declared.Query.TheVariants as Query
use Rattle.queries.proofs.Named.{variable_low, child_low, dos_low}
use Rattle.typing.proofs.Onward.{goes_done, goes_part, when_in, when_stops, when_passes}
use Rattle.typing.proofs.enter.Goals as goal

pub variable-requires : goal.variable-requires
variable-requires c =
    variable_low _ c.requires.here.lowers c.requires.here.low c.read_query-query.ensures c.in-Variable.is

pub child-requires-clause-low : goal.child-requires-clause-low
child-requires-clause-low c =
    child_low _ c.requires.here.lowers c.requires.here.low c.read_query-query.ensures c.in-Child.is

pub dos-requires-clause-low : goal.dos-requires-clause-low
dos-requires-clause-low c =
    dos_low _ c.requires.here.lowers c.requires.here.low c.read_query-query.ensures c.in-Dos.is

pub type_cond-requires-clause-inside : goal.type_cond-requires-clause-inside
type_cond-requires-clause-inside c =
    when_in c.requires.here.lowers c.requires.here.low c.read_query-query.ensures c.in-When.is c.from.ensures

pub returns-in-Nothing : goal.returns-in-Nothing
returns-in-Nothing c =
    goes_done c.requires.here.lowers c.requires.here.low c.read_query-query.ensures Query.Nothing c.in-Nothing.is (Std.Ok _) (c.nothing-made.ensures _ _ _ _ _ c.requires.here.begins)

pub returns-in-Text : goal.returns-in-Text
returns-in-Text c =
    goes_done c.requires.here.lowers c.requires.here.low c.read_query-query.ensures (Query.Text _) c.in-Text.is (Std.Ok _) (c.text-made.ensures _ _ _ _ _ _ c.requires.here.begins)

pub returns-in-Element : goal.returns-in-Element
returns-in-Element c =
    goes_part c.requires.here.lowers c.requires.here.low c.read_query-query.ensures c.in-Element.is c.begin-in-Element.ensures.comes c.begin-in-Element.ensures.frame

pub returns-in_err-made-in-Variable : goal.returns-in_err-made-in-Variable
returns-in_err-made-in-Variable c =
    let p = err_from_is_err_and c.from_residual.result c.from_residual.ensures.1 in
    rw (p.1, p.2) (goes_done c.requires.here.lowers c.requires.here.low c.read_query-query.ensures (Query.Variable _) c.in-Variable.is (Std.Err _) (c.in_err-made-in-Variable.ensures _ _ _ c.requires.here.begins))

pub returns-in_ok-made-in-Variable : goal.returns-in_ok-made-in-Variable
returns-in_ok-made-in-Variable c =
    goes_done c.requires.here.lowers c.requires.here.low c.read_query-query.ensures (Query.Variable _) c.in-Variable.is (Std.Ok _) (c.in_ok-made-in-Variable.ensures _ _ _ c.requires.here.begins)

pub returns-in_err-made-in-Child : goal.returns-in_err-made-in-Child
returns-in_err-made-in-Child c =
    let p = err_from_is_err_and c.from_residual-in_err-made-in-Child.result c.from_residual-in_err-made-in-Child.ensures.1 in
    rw (p.1, p.2) (goes_done c.requires.here.lowers c.requires.here.low c.read_query-query.ensures (Query.Child _ _) c.in-Child.is (Std.Err _) c.in_err-made-in-Child.ensures)

pub returns-in_ok-made-in-Child : goal.returns-in_ok-made-in-Child
returns-in_ok-made-in-Child c =
    goes_done c.requires.here.lowers c.requires.here.low c.read_query-query.ensures (Query.Child _ _) c.in-Child.is (Std.Ok _) c.in_ok-made-in-Child.ensures

pub returns-in_err-made-in-Dos : goal.returns-in_err-made-in-Dos
returns-in_err-made-in-Dos c =
    let p = err_from_is_err_and c.from_residual-in_err-made-in-Dos.result c.from_residual-in_err-made-in-Dos.ensures.1 in
    rw (p.1, p.2) (goes_done c.requires.here.lowers c.requires.here.low c.read_query-query.ensures (Query.Dos _ _) c.in-Dos.is (Std.Err _) c.in_err-made-in-Dos.ensures)

pub returns-in_ok-made-in-Dos : goal.returns-in_ok-made-in-Dos
returns-in_ok-made-in-Dos c =
    goes_done c.requires.here.lowers c.requires.here.low c.read_query-query.ensures (Query.Dos _ _) c.in-Dos.is (Std.Ok _) c.in_ok-made-in-Dos.ensures

pub returns-in_err-type_cond-in-When : goal.returns-in_err-type_cond-in-When
returns-in_err-type_cond-in-When c =
    let p = err_from_is_err_and c.from_residual-in_err-type_cond-in-When.result c.from_residual-in_err-type_cond-in-When.ensures.1 in
    rw (p.1, p.2) (when_stops c.requires.here.lowers c.requires.here.low c.read_query-query.ensures c.in-When.is c.from.ensures c.in_err-type_cond-in-When.ensures)

pub returns-in_ok-type_cond-in-When : goal.returns-in_ok-type_cond-in-When
returns-in_ok-type_cond-in-When c =
    when_passes c.requires.here.lowers c.requires.here.low c.read_query-query.ensures c.in-When.is c.from.ensures c.in_ok-type_cond-in-When.ensures c.begin.ensures.comes c.begin.ensures.frame
