-- `reading::admit` meets its contract: the tests in the order of the refusals, each by its law.
-- Assumes nothing.
use mathlib.Core.Path.{ap}
use mathlib.Core.Bool.{not}
use Rattle.reading.proofs.Admitting.{disordered, crowded, unfit, repeated, admitted}
use Rattle.reading.proofs.admit.Goals as goal

pub returns-then-not-in_order : goal.returns-then-not-in_order
returns-then-not-in_order c = disordered _ _ _ _ _ _ (ap not c.if-not-in_order.true) c.in_order.ensures

pub returns-then-not-has_room : goal.returns-then-not-has_room
returns-then-not-has_room c =
    crowded _ _ _ _ _ _ (ap not c.if-not-in_order.false) c.in_order.ensures (ap not c.if-not-has_room.true) c.has_room.ensures

pub returns-then-not-item_fits : goal.returns-then-not-item_fits
returns-then-not-item_fits c =
    unfit _ _ _ _ _ _ (ap not c.if-not-in_order.false) c.in_order.ensures (ap not c.if-not-has_room.false) c.has_room.ensures (ap not c.if-not-item_fits.true) c.item_fits.ensures

pub returns-then-again : goal.returns-then-again
returns-then-again c =
    repeated _ _ _ _ _ _ (ap not c.if-not-in_order.false) c.in_order.ensures (ap not c.if-not-has_room.false) c.has_room.ensures (ap not c.if-not-item_fits.false) c.item_fits.ensures c.if-again.true c.again.ensures

pub returns : goal.returns
returns c =
    admitted _ _ _ _ _ _ (ap not c.if-not-in_order.false) c.in_order.ensures (ap not c.if-not-has_room.false) c.has_room.ensures (ap not c.if-not-item_fits.false) c.item_fits.ensures _ c.if-again.false c.again.ensures c.count.ensures
