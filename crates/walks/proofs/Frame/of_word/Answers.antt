-- `walks::Frame::of_word` meets its contract: by the range of the word.
-- Assumes nothing.
use mathlib.Core.Path.{sym}
use Rattle.walks.proofs.Stack.{frame_half, frame_alone, frame_joined}
use Rattle.walks.proofs.Frame.of_word.Goals as goal

pub returns-then-w-lt24576 : goal.returns-then-w-lt24576
returns-then-w-lt24576 c = sym (frame_half _ c.if-w-lt24576.true)

pub returns-then-w-lt36864 : goal.returns-then-w-lt36864
returns-then-w-lt36864 c = sym (frame_alone _ c.if-w-lt24576.false c.if-w-lt36864.true)

pub returns : goal.returns
returns c = sym (frame_joined _ c.if-w-lt36864.false)
