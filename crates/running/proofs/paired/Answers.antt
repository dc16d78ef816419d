-- `running::paired` meets its contract: its second part comes, or both are there.
-- Assumes nothing.
use mathlib.Core.Path.{refl}
use Rattle.running.proofs.Frames.{turned}
use Rattle.running.proofs.Returning.{pair_on, pair_up, done_up}
use Rattle.running.proofs.paired.Goals as goal

pub returns-in-None : goal.returns-in-None
returns-in-None c =
    λ s held rest w. pair_on w.back.returns w.is c.in-None.is _ refl w.low _ refl refl refl c.go_on.ensures.stacked (turned s c.go_on.ensures.next)

pub returns-in-Some : goal.returns-in-Some
returns-in-Some c =
    λ s held rest w. done_up w.back.returns (pair_up w.back.returns w.is c.in-Some.is c.from.ensures refl) c.from-in-Some.ensures refl refl
