-- `report::stretch` meets its contract: a turn prints one line more, and the last page is written out.
-- Assumes nothing.
use Rattle.std.proofs.Common.{subst, arith, ℕ, ◌≡◌, ◌+◌, ◌-◌, ap, ◌∙◌}
use Rattle.std.specs.Io.KnownBytes.{Appends}
use Rattle.std.proofs.lemmas.Result.{on_ok_weaker}
use Rattle.report.specs.Text.{entry_lines}
use Rattle.report.specs.Pages.{Printed}
use Rattle.report.proofs.Pages.{none_printed, line_printed, lines_more, written_out, stretched}
use Rattle.report.proofs.stretch.Goals as goal

pub loop-e-init : goal.loop-e-init
loop-e-init g c =
    rw c.new-page.ensures (none_printed (g.W.Write.contents c.args.out.now) c.args.table.now c.min-from.result _ (omega arith))

pub loop-e-preserved : goal.loop-e-preserved
loop-e-preserved g c =
    subst
    (Printed (g.W.Write.contents c.args.out.now) (g.W.Write.contents c.turn.new.out) c.put_entry.new.page.bytes)
    (lines_more c.args.table.now c.min-from.result c.loop-e.e (omega arith))
    (line_printed _ _ _ c.loop-e.page.bytes c.turn.new.page.bytes c.put_entry.new.page.bytes _ _ c.loop-e.invariant c.in_ok-turn.ensures.printed c.put_entry.ensures)

pub returns : goal.returns
returns g c =
    let end : c.loop-e.e ≡ c.min-from.result + c.min.result = omega arith in
    let lines = ap (λ (i : ℕ). entry_lines c.args.table.now c.min-from.result (i - c.min-from.result)) end ∙ stretched c.args.table.now c.args.first c.args.count c.min-from.result c.min.result c.min-from.ensures c.min.ensures in
    let old = g.W.Write.contents c.args.out.now in
    let new = g.W.Write.contents c.write_all.new.self in
    on_ok_weaker c.write_all.result
    (λ p. subst (Appends old new) lines (written_out old (g.W.Write.contents c.loop-e.out) new c.loop-e.page.bytes _ c.loop-e.invariant (subst (Appends (g.W.Write.contents c.loop-e.out) new) (c.as_bytes.ensures.value ∙ c.as_str.ensures.value) p)))
    c.write_all.ensures.bytes
