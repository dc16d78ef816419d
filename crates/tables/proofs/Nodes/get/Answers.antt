-- `tables::Nodes::get` meets its contract. Assumes nothing.
use mathlib.Core.Path.{sym, ap, ◌∙◌}
use mathlib.Core.List.{List}
use native.Mathlib.Omega.{arith}
use Rattle.meaning.specs.Records.{Node, node, node_at}
use Rattle.words.specs.declared.Node as Words
use Rattle.words.proofs.Tables.{code_length, code_at}
use Rattle.tables.proofs.Rows.{below}
use Rattle.tables.proofs.Nodes.get.Goals as goal

pub read_node-requires : goal.read_node-requires
read_node-requires c = omega (arith, c.self.invariant, below (code_length _ _) c.self.view_is c.requires)

pub returns : goal.returns
returns c =
    ap (λ (x : Words.Node). node x.kind x.a x.b x.c) c.read_node.ensures
    ∙ sym (code_at _ _ _ (below (code_length _ _) c.self.view_is c.requires))
    ∙ ap (λ (t : List Node). node_at t c.args.n) c.self.view_is
