-- `walks::over` meets its contract: a first part is read for its second.
-- Assumes nothing.
use mathlib.Core.Path.{ap, ◌∙◌}
use native.Mathlib.Omega.{arith}
use Rattle.walks.specs.declared.Frame.{Frame}
use Rattle.walks.specs.declared.Then.{Then}
use Rattle.walks.specs.Frames.{second}
use Rattle.walks.proofs.over.Goals as goal

pub get-x-requires : goal.get-x-requires
get-x-requires c =
    let halved = rw c.in-Half.is at c.requires.halved in omega (arith, c.from.ensures, halved.0)

pub returns-in-Half : goal.returns-in-Half
returns-in-Half c =
    rw c.in-Half.is (ap (Then.Second (Frame.Joined c.in-Half.kind c.args.«at»)) (c.second.ensures ∙ ap second (rw c.from.ensures at c.get-x.ensures)))
