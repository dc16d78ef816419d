-- `classes::lacks` meets its contract: the first that is found. Assumes nothing.
use mathlib.Core.Path.{◌≡◌}
use mathlib.Core.Logic.{◌≢◌}
use lib.ListN.{get_or}
use Rattle.std.proofs.Common.{rules, tests}
use Rattle.std.proofs.lemmas.Iterator.{YieldsList-from_slice, first_from_find}
use Rattle.std.proofs.lemmas.Iterator.Consumers.{YieldsList-from_copied}
use Rattle.classes.proofs.Lacking.{lacks_found}
use Rattle.classes.proofs.lacks.Goals as goal

pub returns : goal.returns
returns c =
    lacks_found c.args.parts.now c.find.result
    (first_from_find _ _ _ (λ x. get_or c.args.classes.now x 0 ≡ 0) (λ x. get_or c.args.classes.now x 0 ≢ 0) c.find.ensures.ran (YieldsList-from_copied (YieldsList-from_slice c.args.parts.now (cc)))
    (λ x q k. search (rules, tests)) (λ x q k. search (rules, tests)))
