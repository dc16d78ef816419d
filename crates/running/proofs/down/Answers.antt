-- `running::down` meets its contract, one kind of query at a time.
-- Assumes nothing.
use mathlib.Core.Path.{refl}
use Rattle.std.proofs.lemmas.Result.{err_from_is_err_and}
use Rattle.running.proofs.Frames.{turned}
use Rattle.meaning.specs.Forests.{end, leaf, select}
use Rattle.meaning.specs.Forests as Forests
use Rattle.meaning.specs.Queries as Queries
use Rattle.meaning.specs.Running.{value_of}
use Rattle.queries.specs.declared.Query.TheVariants as Query
use Rattle.queries.proofs.Named.{element_low, pair_low, variable_low, child_low, dos_low, for_low, let_low, when_low}
use Rattle.running.proofs.Leaving.{text_is, variable_is, child_is, dos_is}
use Rattle.running.proofs.Wholes.{within}
use Rattle.running.proofs.Entering.{asked, copy_done, pair_comes, for_comes, let_comes, nothing_done, guards}
use Rattle.running.proofs.down.Goals as goal

pub variable-requires-clause-within : goal.variable-requires-clause-within
variable-requires-clause-within c =
    within c.requires.ready.begins (variable_low _ c.requires.ready.lowers c.requires.ready.low c.read_query-query.ensures c.in-Variable.is)

pub child-requires-clause-within : goal.child-requires-clause-within
child-requires-clause-within c =
    within c.requires.ready.begins (child_low _ c.requires.ready.lowers c.requires.ready.low c.read_query-query.ensures c.in-Child.is)

pub dos-requires-clause-within : goal.dos-requires-clause-within
dos-requires-clause-within c =
    within c.requires.ready.begins (dos_low _ c.requires.ready.lowers c.requires.ready.low c.read_query-query.ensures c.in-Dos.is)

pub guarded-requires-clause-guards : goal.guarded-requires-clause-guards
guarded-requires-clause-guards c =
    guards c.requires.ready (when_low _ c.requires.ready.lowers c.requires.ready.low c.read_query-query.ensures c.in-When.is).0

pub returns-in-Nothing : goal.returns-in-Nothing
returns-in-Nothing c =
    nothing_done c.requires.ready (asked c.requires.ready c.read_query-query.ensures Query.Nothing c.in-Nothing.is) refl refl

pub returns-in-Element : goal.returns-in-Element
returns-in-Element c =
    c.entered.ensures _ _ _ _ _ refl c.requires.ready (asked c.requires.ready c.read_query-query.ensures (Query.Element _ _) c.in-Element.is) (element_low _ c.requires.ready.lowers c.requires.ready.low c.read_query-query.ensures c.in-Element.is).2

pub returns-in-Pair : goal.returns-in-Pair
returns-in-Pair c =
    pair_comes c.requires.ready _ (pair_low _ c.requires.ready.lowers c.requires.ready.low c.read_query-query.ensures c.in-Pair.is).0 _ c.begin.ensures.stacked (turned _ c.begin.ensures.next) (asked c.requires.ready c.read_query-query.ensures (Query.Pair _ _) c.in-Pair.is)

pub returns-in-For : goal.returns-in-For
returns-in-For c =
    for_comes c.requires.ready _ (for_low _ c.requires.ready.lowers c.requires.ready.low c.read_query-query.ensures c.in-For.is).1 _ c.begin-in-For.ensures.stacked (turned _ c.begin-in-For.ensures.next) (asked c.requires.ready c.read_query-query.ensures (Query.For _ _ _) c.in-For.is)

pub returns-in-Let : goal.returns-in-Let
returns-in-Let c =
    let_comes c.requires.ready _ (let_low _ c.requires.ready.lowers c.requires.ready.low c.read_query-query.ensures c.in-Let.is).1 _ c.begin-in-Let.ensures.stacked (turned _ c.begin-in-Let.ensures.next) (asked c.requires.ready c.read_query-query.ensures (Query.Let _ _ _) c.in-Let.is)

pub returns-in-When : goal.returns-in-When
returns-in-When c =
    c.guarded.ensures _ c.requires.ready (asked c.requires.ready c.read_query-query.ensures (Query.When _ _) c.in-When.is) (when_low _ c.requires.ready.lowers c.requires.ready.low c.read_query-query.ensures c.in-When.is).1

pub returns-in_err-made-in-Text : goal.returns-in_err-made-in-Text
returns-in_err-made-in-Text c =
    let p = err_from_is_err_and c.from_residual.result c.from_residual.ensures.1 in
    rw (p.1, p.2) (copy_done c.requires.ready (Queries.text _ _) (asked c.requires.ready c.read_query-query.ensures (Query.Text _) c.in-Text.is) (λ env. leaf _ end) (λ top env. text_is top _ env _ _) (record { is = λ env z. c.in_err-made-in-Text.ensures }) c.text.auto.rest refl refl)

pub returns-in_ok-made-in-Text : goal.returns-in_ok-made-in-Text
returns-in_ok-made-in-Text c =
    copy_done c.requires.ready (Queries.text _ _) (asked c.requires.ready c.read_query-query.ensures (Query.Text _) c.in-Text.is) (λ env. leaf _ end) (λ top env. text_is top _ env _ _) (record { is = λ env z. c.in_ok-made-in-Text.ensures }) c.text.auto.rest refl refl

pub returns-in_err-made-in-Variable : goal.returns-in_err-made-in-Variable
returns-in_err-made-in-Variable c =
    let p = err_from_is_err_and c.from_residual-in_err-made-in-Variable.result c.from_residual-in_err-made-in-Variable.ensures.1 in
    rw (p.1, p.2) (copy_done c.requires.ready (Queries.variable _ _) (asked c.requires.ready c.read_query-query.ensures (Query.Variable _) c.in-Variable.is) (λ env. value_of env _) (λ top env. variable_is top _ env _ _) c.in_err-made-in-Variable.ensures c.variable.auto.rest refl refl)

pub returns-in_ok-made-in-Variable : goal.returns-in_ok-made-in-Variable
returns-in_ok-made-in-Variable c =
    copy_done c.requires.ready (Queries.variable _ _) (asked c.requires.ready c.read_query-query.ensures (Query.Variable _) c.in-Variable.is) (λ env. value_of env _) (λ top env. variable_is top _ env _ _) c.in_ok-made-in-Variable.ensures c.variable.auto.rest refl refl

pub returns-in_err-made-in-Child : goal.returns-in_err-made-in-Child
returns-in_err-made-in-Child c =
    let p = err_from_is_err_and c.from_residual-in_err-made-in-Child.result c.from_residual-in_err-made-in-Child.ensures.1 in
    rw (p.1, p.2) (copy_done c.requires.ready (Queries.child _ _ _) (asked c.requires.ready c.read_query-query.ensures (Query.Child _ _) c.in-Child.is) (λ env. select _ (Forests.children (value_of env _))) (λ top env. child_is top _ env _ _ _) c.in_err-made-in-Child.ensures c.child.auto.rest refl refl)

pub returns-in_ok-made-in-Child : goal.returns-in_ok-made-in-Child
returns-in_ok-made-in-Child c =
    copy_done c.requires.ready (Queries.child _ _ _) (asked c.requires.ready c.read_query-query.ensures (Query.Child _ _) c.in-Child.is) (λ env. select _ (Forests.children (value_of env _))) (λ top env. child_is top _ env _ _ _) c.in_ok-made-in-Child.ensures c.child.auto.rest refl refl

pub returns-in_err-made-in-Dos : goal.returns-in_err-made-in-Dos
returns-in_err-made-in-Dos c =
    let p = err_from_is_err_and c.from_residual-in_err-made-in-Dos.result c.from_residual-in_err-made-in-Dos.ensures.1 in
    rw (p.1, p.2) (copy_done c.requires.ready (Queries.dos _ _ _) (asked c.requires.ready c.read_query-query.ensures (Query.Dos _ _) c.in-Dos.is) (λ env. select _ (Forests.below (value_of env _))) (λ top env. dos_is top _ env _ _ _) c.in_err-made-in-Dos.ensures c.dos.auto.rest refl refl)

pub returns-in_ok-made-in-Dos : goal.returns-in_ok-made-in-Dos
returns-in_ok-made-in-Dos c =
    copy_done c.requires.ready (Queries.dos _ _ _) (asked c.requires.ready c.read_query-query.ensures (Query.Dos _ _) c.in-Dos.is) (λ env. select _ (Forests.below (value_of env _))) (λ top env. dos_is top _ env _ _ _) c.in_ok-made-in-Dos.ensures c.dos.auto.rest refl refl
