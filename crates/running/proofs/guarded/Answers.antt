-- `running::guarded` meets its contract: a when's condition, and then its part or nothing.
-- Assumes nothing.
use mathlib.Core.Path.{refl}
use Rattle.running.proofs.Frames.{turned}
use Rattle.running.proofs.Entering.{when_done, when_comes, tells_at}
use Rattle.running.proofs.guarded.Goals as goal

pub returns-then-truth : goal.returns-then-truth
returns-then-truth c =
    λ rest h e low. when_comes h _ low _ c.begin.ensures.stacked (turned _ c.begin.ensures.next) e (tells_at _ _ _ c.from.ensures c.truth.ensures) c.if-truth.true

pub returns : goal.returns
returns c =
    λ rest h e low. when_done h e (tells_at _ _ _ c.from.ensures c.truth.ensures) c.if-truth.false refl refl
