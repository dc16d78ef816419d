-- `reading::store` meets its contract: each section stores behind what its table holds.
-- Assumes nothing.
use Rattle.reading.proofs.Holding.{stores_entry, stores_definition, stores_variable, stores_node, stores_nothing}
use Rattle.reading.proofs.store.Goals as goal

pub returns-in-Types : goal.returns-in-Types
returns-in-Types c = stores_entry _ c.in-Types.is (c.requires.types c.in-Types.is) c.put_entry.ensures

pub returns-in-Definitions : goal.returns-in-Definitions
returns-in-Definitions c = stores_definition c.in-Definitions.is (c.requires.defs c.in-Definitions.is)

pub returns-in-Variables : goal.returns-in-Variables
returns-in-Variables c = stores_variable _ c.in-Variables.is (c.requires.vars c.in-Variables.is) c.put_var.ensures

pub returns-in-Query : goal.returns-in-Query
returns-in-Query c = stores_node _ c.in-Query.is (c.requires.code c.in-Query.is) c.put_node.ensures

pub returns-in-Result : goal.returns-in-Result
returns-in-Result c = stores_nothing c.in-Result.is
