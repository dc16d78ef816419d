-- `report::result` meets its contract: what is put on the page is the line.
-- Assumes nothing.
use Rattle.std.proofs.Common.{subst, ◌∙◌, arith}
use Rattle.std.specs.Io.KnownBytes.{Appends}
use Rattle.std.proofs.lemmas.Result.{on_ok_weaker}
use Rattle.report.proofs.Digits.{result_put}
use Rattle.report.proofs.result.Goals as goal

pub returns : goal.returns
returns g c =
    let line = result_put c.new-line.ensures c.args.n (omega arith) c.push_str.ensures.bytes c.put.ensures.bytes in
    on_ok_weaker c.write_all.result
    (subst (Appends (g.W.Write.contents c.args.out.now) (g.W.Write.contents c.write_all.new.self)) (c.as_bytes.ensures.value ∙ c.as_str.ensures.value ∙ line))
    c.write_all.ensures.bytes
