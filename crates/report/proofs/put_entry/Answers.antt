-- `report::put_entry` meets its contract: the line of the words that it reads.
-- Assumes nothing.
use Rattle.std.proofs.Common.{◌∙◌, ◌++◌, arith}
use Rattle.report.specs.Text.{entry_line}
use Rattle.report.proofs.Digits.{entry_put}
use Rattle.report.proofs.put_entry.Goals as goal

pub returns : goal.returns
returns c =
    let page = c.args.page.now.bytes in
    let words = c.read_entry-x.ensures in
    let line = entry_put page c.args.e c.from.result c.from-2.result c.from-3.result (omega arith) (omega arith) (omega arith) (omega arith) c.put.ensures.bytes c.put-2.ensures.bytes c.put-3.ensures.bytes c.put-4.ensures.bytes in
    line
    ∙ (λ i. page ++ entry_line c.args.e (c.from.ensures i) (c.from-2.ensures i) (c.from-3.ensures i))
    ∙ (λ i. page ++ entry_line c.args.e (words i).kind (words i).a (words i).b)
