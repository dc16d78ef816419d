-- `report::refused_by_number` meets its contract: what is put on the page is the line.
-- Assumes nothing.
use Rattle.std.proofs.Common.{subst, ap, ◌∙◌, arith}
use Rattle.std.specs.Io.KnownBytes.{Appends}
use Rattle.std.proofs.lemmas.Result.{on_ok_weaker}
use Rattle.report.specs.Text.{refused_line}
use Rattle.report.proofs.Digits.{refused_put}
use Rattle.report.proofs.refused_by_number.Goals as goal

pub returns : goal.returns
returns g c =
    let line = refused_put c.new-line.ensures c.from.result c.args.place (omega arith) (omega arith) c.push_str.ensures.bytes c.put.ensures.bytes c.put-2.ensures.bytes ∙ ap (λ n. refused_line n c.args.place) c.from.ensures in
    on_ok_weaker c.write_all.result
    (subst (Appends (g.W.Write.contents c.args.out.now) (g.W.Write.contents c.write_all.new.self)) (c.as_bytes.ensures.value ∙ c.as_str.ensures.value ∙ line))
    c.write_all.ensures.bytes
