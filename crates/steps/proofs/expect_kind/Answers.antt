-- `steps::expect_kind` meets its contract.
-- Assumes nothing.
use Rattle.steps.proofs.Expecting.{expect_not, expect_is}
use Rattle.steps.proofs.expect_kind.Goals as goal

pub returns-then-not-is_wanted : goal.returns-then-not-is_wanted
returns-then-not-is_wanted c =
    expect_not _ _ c.token_at-t.ensures _ c.kind_of.ensures c.if-not-is_wanted.true

pub returns : goal.returns
returns c =
    expect_is _ _ c.token_at-t.ensures _ c.kind_of.ensures c.if-not-is_wanted.false c.requires.inside c.requires.not_end
