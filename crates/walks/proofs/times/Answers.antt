-- `walks::times` meets its contract: one law for each class.
-- Assumes nothing.
use Rattle.walks.proofs.Repeats.{repeat_one, repeat_opt, repeat_plus, repeat_star}
use Rattle.walks.proofs.times.Goals as goal
use Rattle.walks.proofs.times.Goals.{in-Maybe, in-More, in-Any}

pub returns-in-One : goal.returns-in-One
returns-in-One c = λ D R low. repeat_one R low _ c.in-One.ensures

pub returns : goal.returns
returns c =
    λ D R low.
    elim c.match-of_word.branch [
      | in-Maybe w ↦ repeat_opt R low _ c.words.ensures c.append.ensures w.in-Maybe.ensures w.x-is
      | in-More w ↦ repeat_plus R low _ c.words.ensures c.append.ensures w.in-More.ensures w.x-is
      | in-Any w ↦ repeat_star R low _ c.words.ensures c.append.ensures w.in-Any.ensures w.x-is
    ]
