-- `reach::next` meets its contract: the first that the search finds. Assumes nothing.
use mathlib.Core.Path.{◌≡◌}
use mathlib.Core.Bool.{true, false}
use Prim.Native.Nat.{◌<◌}
use lib.ListN.{length}
use Rattle.std.proofs.Common.{rules, tests}
use Rattle.std.proofs.lemmas.Iterator.{first_from_Range}
use Rattle.reach.specs.Marks.{marks_of}
use Rattle.reach.specs.Atoms.{picked}
use Rattle.reach.proofs.Atoms.{next_found}
use Rattle.reach.proofs.next.Goals as goal

pub returns : goal.returns
returns c =
    let f = picked c.args.test c.args.types.now (marks_of (length c.args.types.now) c.args.marks.now) in
    let n = c.len-count.result in
    rw c.len-count.ensures at (next_found f n c.args.i c.find.result
    (first_from_Range _ _ _ _ (λ k. k < n → f k ≡ true) (λ k. k < n → f k ≡ false) c.find.ensures.ran (λ x q k. search (rules, tests)) (λ x q k. search (rules, tests))))
