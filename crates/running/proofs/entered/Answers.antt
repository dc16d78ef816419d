-- `running::entered` meets its contract.
-- Assumes nothing.
use mathlib.Core.Path.{refl}
use Rattle.running.proofs.Frames.{turned}
use Rattle.running.proofs.Entering.{element_done, element_comes}
use native.Mathlib.Omega.{arith}
use Rattle.running.proofs.entered.Goals as goal

pub returns-then-room-lt3 : goal.returns-then-room-lt3
returns-then-room-lt3 c =
    λ C held rest l s long h e low. element_done h _ e (omega (arith, long, c.if-room-lt3.true)) refl refl

pub returns : goal.returns
returns c =
    λ C held rest l s long h e low. element_comes h _ low e (omega (arith, long, c.if-room-lt3.false)) c.begin.ensures.stacked (turned s c.begin.ensures.next)
