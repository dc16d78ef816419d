-- `report::stretch`: what is written out and what stands on the page are the lines so far.
use Rattle.std.proofs.Common.{◌-◌}
use Rattle.report.specs.Text.{entry_lines}
use Rattle.report.specs.Pages.{Printed}
use Rattle.report.proofs.stretch.Given as goal

abbrev pub invariant-loop-e : goal.invariant-loop-e
invariant-loop-e g l = Printed (g.W.Write.contents l.initial.out) (g.W.Write.contents l.out) l.page.bytes (entry_lines l.table l.from (l.e - l.from))
