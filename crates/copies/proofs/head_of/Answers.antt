-- `copies::head_of` meets its contract.
-- Assumes nothing.
use Rattle.copies.specs.Fills.{head_in}
use borrow.Author.Tests.{eq-eqb, ne_eqb}
use Rattle.copies.proofs.head_of.Goals as goal

pub returns-then-kind-eq64 : goal.returns-then-kind-eq64
unfolding head_in
returns-then-kind-eq64 c = simp (head_in, eq-eqb _ _ c.if-kind-eq64.true)

pub returns-else-kind-eq64 : goal.returns-else-kind-eq64
unfolding head_in
returns-else-kind-eq64 c = simp (head_in, ne_eqb _ _ c.if-kind-eq64.false)
