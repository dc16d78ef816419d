-- `values::read_values` meets its contract: reading the rest of the variables is reading them all (`Scanning`). Assumes nothing.
use mathlib.Core.Path.{sym, subst}
use native.Mathlib.Omega.{arith}
use Rattle.std.proofs.lemmas.Result.{err_from_is_err_and}
use Rattle.values.specs.Says.{Deep}
use Rattle.values.proofs.Scanning.{scan_starts, scan_wrong, scan_on, scan_past, scan_ends}
use Rattle.values.proofs.read_values.Goals as goal

pub loop-i-init : goal.loop-i-init
loop-i-init c = scan_starts c.requires

pub read_value-requires : goal.read_value-requires
read_value-requires c =
    record { inside = c.loop-i.invariant.within; deep = subst (Deep _) (sym c.loop-i.invariant.deep) c.requires.deep; long = omega (arith, c.loop-i.invariant.room_is, c.loop-i.invariant.long, c.requires.long); few = omega (arith, c.loop-i.invariant.small, c.requires.few, c.loop-i-test.true, c.len-i-end.ensures) }

pub returns-in_err-value : goal.returns-in_err-value
returns-in_err-value c =
    let p = err_from_is_err_and c.from_residual.result c.from_residual.ensures.1 in
    rw (p.1, p.2) (scan_wrong c.loop-i.invariant (omega (arith, c.len-i-end.ensures)) c.get-x.result c.get-x.ensures c.in_err-value.ensures)

pub bounds-ends-i : goal.bounds-ends-i
bounds-ends-i c =
    omega (arith, c.loop-i-test.true, c.len-i-end.ensures, c.requires.few, c.loop-i.invariant.sixteen)

pub loop-i-preserved : goal.loop-i-preserved
loop-i-preserved c =
    scan_on c.loop-i.invariant (omega (arith, c.len-i-end.ensures)) c.get-x.result c.get-x.ensures c.in_ok-value.ensures c.requires.few c.loop-i.invariant.long c.then_some.ensures c.or-odd.ensures c.min.ensures c.read_value.auto.stack c.read_value.auto.work

pub returns-then-at-s : goal.returns-then-at-s
returns-then-at-s c = rw c.wrong.ensures (scan_past c.loop-i.invariant (omega (arith, c.len-i-end.ensures)) c.if-at-s.true)

pub returns : goal.returns
returns c = scan_ends c.loop-i.invariant (omega (arith, c.len-i-end.ensures)) c.if-at-s.false
