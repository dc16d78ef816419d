-- `reading::read_on` meets its contract: reading on from here, onto the tables that the lists hold, is reading the whole; what is left of the file falls.
-- Assumes nothing.
use Rattle.reading.specs.Lists.{lists}
use Rattle.reading.proofs.Going.{begin, done, refuses, space, less, goes}
use Rattle.reading.proofs.read_on.Goals as goal

pub loop-here-init : goal.loop-here-init
loop-here-init c = begin _ _ _ _ _ c.requires

pub store-requires : goal.store-requires
store-requires c = space c.loop-here.invariant c.loop-here-test.true (rw (c.new-declared.ensures, c.new-nodes.ensures) at c.advance.ensures) _ c.in-Ok.is

pub loop-here-smaller : goal.loop-here-smaller
loop-here-smaller c = less c.loop-here.invariant c.loop-here-test.true (rw (c.new-declared.ensures, c.new-nodes.ensures) at c.advance.ensures) _ c.in-Ok.is

pub loop-here-preserved : goal.loop-here-preserved
loop-here-preserved c =
    goes c.loop-here.invariant c.loop-here-test.true (rw (c.new-declared.ensures, c.new-nodes.ensures) at c.advance.ensures) _ c.in-Ok.is (lists c.store.new.types c.store.new.code c.store.new.defs c.store.new.vars) c.store.ensures c.store.auto.types c.store.auto.code c.store.auto.defs c.store.auto.vars

pub returns-in-Err : goal.returns-in-Err
returns-in-Err c =
    refuses c.loop-here.invariant c.loop-here-test.true (rw (c.new-declared.ensures, c.new-nodes.ensures) at c.advance.ensures) _ c.in-Err.is (lists c.clear_entries.new.t c.clear_nodes.new.t c.loop-here.defs c.loop-here.vars) c.clear_entries.ensures c.clear_nodes.ensures

pub returns : goal.returns
returns c = done c.loop-here.invariant c.loop-here-test.false
