-- `values::value_at` meets its contract: none is whole, or its fields decide. Assumes nothing.
use Rattle.values.proofs.Standing.{value_wrong, value_unfit, value_there}
use Rattle.values.proofs.value_at.Goals as goal

pub returns-in_default : goal.returns-in_default
returns-in_default c = rw c.wrong.ensures (value_wrong c.requires c.value_at.ensures c.in_default.is)

pub returns-then-not-value_fits : goal.returns-then-not-value_fits
returns-then-not-value_fits c =
    rw c.wrong-then-not-value_fits.ensures (value_unfit c.requires c.value_at.ensures c.in-Ok.is c.value_fits.ensures c.if-not-value_fits.true)

pub returns : goal.returns
returns c = value_there c.requires c.value_at.ensures c.in-Ok.is c.value_fits.ensures c.if-not-value_fits.false
