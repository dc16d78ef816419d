-- `records::item_fits` meets its contract: the fields one by one, as many as the length says.
-- Assumes nothing.
use Rattle.records.proofs.Fit.{none_there, first_bad, one_there, second_bad, two_there, three_there}
use mathlib.Core.Path.{ap}
use mathlib.Core.Bool.{not}
use Rattle.records.proofs.item_fits.Goals as goal

pub returns-then-length-lt6 : goal.returns-then-length-lt6
returns-then-length-lt6 c = none_there _ _ _ c.if-length-lt6.true

pub returns-then-not-field_fits : goal.returns-then-not-field_fits
returns-then-not-field_fits c =
    first_bad _ _ _ c.if-length-lt6.false (ap not c.if-not-field_fits.true) c.field_fits.ensures

pub returns-then-length-lt8 : goal.returns-then-length-lt8
returns-then-length-lt8 c =
    one_there _ _ _ c.if-length-lt6.false (ap not c.if-not-field_fits.false) c.field_fits.ensures c.if-length-lt8.true

pub returns-then-not-field_fits-2 : goal.returns-then-not-field_fits-2
returns-then-not-field_fits-2 c =
    second_bad _ _ _ c.if-length-lt6.false (ap not c.if-not-field_fits.false) c.field_fits.ensures c.if-length-lt8.false (ap not c.if-not-field_fits-2.true) c.field_fits-2.ensures

pub returns-then-length-lt10 : goal.returns-then-length-lt10
returns-then-length-lt10 c =
    two_there _ _ _ c.if-length-lt6.false (ap not c.if-not-field_fits.false) c.field_fits.ensures c.if-length-lt8.false (ap not c.if-not-field_fits-2.false) c.field_fits-2.ensures c.if-length-lt10.true

pub returns : goal.returns
returns c =
    three_there _ _ _ c.if-length-lt6.false (ap not c.if-not-field_fits.false) c.field_fits.ensures c.if-length-lt8.false (ap not c.if-not-field_fits-2.false) c.field_fits-2.ensures c.if-length-lt10.false c.field_fits-3.ensures
