-- `running::named` meets its contract: its body comes, with the source held, or the body is moved down.
-- Assumes nothing.
use mathlib.Core.Path.{refl}
use Rattle.running.proofs.Frames.{turned}
use Rattle.running.proofs.Returning.{let_on, let_up, let_space, done_up}
use Rattle.running.proofs.named.Goals as goal

pub down-requires : goal.down-requires
down-requires c =
    let_space c.requires.waits.back.returns c.requires.waits.is c.in-Some.is c.from.ensures

pub returns-in-None : goal.returns-in-None
returns-in-None c =
    λ w. let_on w.back.returns w.is c.in-None.is c.requires.variable _ refl w.low _ refl refl refl c.from-variable.ensures c.from-base.ensures c.bind-hides.ensures.hidden c.hold.ensures c.bind-hides.ensures.put c.go_on.ensures.stacked (turned _ c.go_on.ensures.next)

pub returns-in-Some : goal.returns-in-Some
returns-in-Some c =
    λ w. done_up w.back.returns (let_up w.back.returns w.is c.in-Some.is c.from-variable.ensures c.from.ensures c.unbind.ensures c.down.ensures c.down.auto.rest) c.from-base.ensures refl refl
