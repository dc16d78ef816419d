-- Every element in a query has a label from 1 to 65,534.
-- Assumes nothing.
use Prim.Native.Nat.{◌≤◌}
use Rattle.meaning.specs.Queries as Queries
use Rattle.meaning.specs.Queries.{Query}

unfoldable pub Labels : Query → Type 0
Labels (Queries.nothing n) = Unit {0}
Labels (Queries.text n t) = Unit {0}
Labels (Queries.element n l q) = (1 ≤ l) × (l ≤ 65534) × Labels q
Labels (Queries.pair n p q) = Labels p × Labels q
Labels (Queries.variable n v) = Unit {0}
Labels (Queries.child n v w) = Unit {0}
Labels (Queries.dos n v w) = Unit {0}
Labels (Queries.for n v p q) = Labels p × Labels q
Labels (Queries.let_in n v p q) = Labels p × Labels q
Labels (Queries.when n p q) = Labels q
