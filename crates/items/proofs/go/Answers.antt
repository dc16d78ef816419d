-- `items::go` meets its contract.
-- Assumes nothing.
use Rattle.items.proofs.Framed.{second_done, body_done, when_done, goes_as}
use Rattle.items.proofs.go.Goals as goal

pub returns-in-Second : goal.returns-in-Second
returns-in-Second c = goes_as c.in-Second.is (second_done c.saturating_sub-q.ensures c.made.ensures)

pub returns-in-Body : goal.returns-in-Body
returns-in-Body c = goes_as c.in-Body.is (body_done c.saturating_sub-q.ensures c.query.ensures c.made-in-Body.ensures)

pub returns-in-Guarded : goal.returns-in-Guarded
returns-in-Guarded c = goes_as c.in-Guarded.is (when_done c.saturating_sub-q.ensures c.made-in-Guarded.ensures)
