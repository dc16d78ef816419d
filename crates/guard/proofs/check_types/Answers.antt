-- `guard::check_types` meets its contract: 9 and 10 together are `check_types`. Assumes nothing.
use Rattle.guard.proofs.Answering.{checked_nine, checked_ten, checked_sound}
use Rattle.guard.proofs.check_types.Goals as goal

pub returns-in-Some : goal.returns-in-Some
returns-in-Some c = checked_nine c.requires.given c.undefined_name.ensures c.in-Some.is

pub returns-in-Some-any_circle : goal.returns-in-Some-any_circle
returns-in-Some-any_circle c = checked_ten c.requires.given c.undefined_name.ensures c.in_default.is c.any_circle.ensures c.in-Some-any_circle.is

pub returns : goal.returns
returns c = checked_sound c.requires.given c.undefined_name.ensures c.in_default.is c.any_circle.ensures c.in_default-any_circle.is
