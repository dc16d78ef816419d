-- `acts::look` meets its contract.
-- Assumes nothing.
use Rattle.acts.proofs.Reading.{name_inside, looked_prime, looked_content, looked_sift}
use Rattle.acts.proofs.look.Goals as goal

pub prime_act-requires : goal.prime_act-requires
prime_act-requires c = name_inside _ _ _ _ c.get.ensures c.requires.formed c.requires.low

pub sift_act-requires : goal.sift_act-requires
sift_act-requires c = name_inside _ _ _ _ c.get-in-Sift.ensures c.requires.formed c.requires.low

pub returns-in-Prime : goal.returns-in-Prime
returns-in-Prime c = looked_prime _ _ _ _ c.get.ensures c.in-Prime.is c.prime_act.ensures

pub returns-in-Content : goal.returns-in-Content
returns-in-Content c = looked_content _ _ _ _ c.get-in-Content.ensures c.in-Content.is c.content_act.ensures

pub returns-in-Sift : goal.returns-in-Sift
returns-in-Sift c = looked_sift _ _ _ _ c.get-in-Sift.ensures c.in-Sift.is c.sift_act.ensures
