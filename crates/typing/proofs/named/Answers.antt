-- `typing::named` meets its contract: after its body the variable is unbound; after its source 14 stops it, or its body comes.
-- Assumes nothing.
use Rattle.std.specs.Prelude as Std
use Rattle.std.proofs.lemmas.Result.{err_from_is_err_and}
use mathlib.Core.Path.{refl}
use Rattle.typing.proofs.Turning.{turn_done, turn_second, let_stops, let_second, let_done, freed, freed_bound, freed_goes, one_less}
use Rattle.typing.proofs.named.Goals as goal

pub returns-then-k-ne0 : goal.returns-then-k-ne0
returns-then-k-ne0 c =
    λ D C p ws cs a l B low. turn_done D _ _ _ _ _ _ _ _ a (Std.Ok _) (let_done D _ _ _ _ _ _ _ B low _ _ p _ _ (one_less c.if-k-ne0.true) c.from-w.ensures c.unbind.ensures)

pub returns-in_err-source : goal.returns-in_err-source
returns-in_err-source c =
    let x = err_from_is_err_and c.from_residual.result c.from_residual.ensures.1 in
    λ D C p ws cs a l B low. rw (x.1, x.2) (turn_done D _ _ _ _ _ _ _ _ a (Std.Err _) (let_stops D _ _ _ _ _ _ _ B low _ _ p _ c.if-k-ne0.false c.in_err-source.ensures))

pub returns : goal.returns
returns c =
    λ D C p ws cs a l B low. turn_second D _ _ _ _ _ _ _ _ a c.if-k-ne0.false l (let_second D _ _ _ _ _ _ _ B low _ _ p _ (freed c.in_ok-source.ensures c.requires.low) c.from-w.ensures (freed_bound c.in_ok-source.ensures c.from-w.result c.bind.ensures)) (freed_goes c.in_ok-source.ensures c.go_on.ensures.comes) refl c.go_on.ensures.keeps
