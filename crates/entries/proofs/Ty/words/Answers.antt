-- `entries::Ty::words` meets its contract: one row for each type. Assumes nothing.
use mathlib.Core.Path.{refl}
use Rattle.meaning.specs.Base.{zeros}
use Rattle.meaning.specs.Types.{kind_of, fields_of}
use Rattle.entries.proofs.Ty.words.Goals as goal

pub returns-in-Empty : goal.returns-in-Empty
unfolding kind_of fields_of zeros
returns-in-Empty c = rw c.in-Empty.is refl

pub returns-in-Text : goal.returns-in-Text
unfolding kind_of fields_of zeros
returns-in-Text c = rw c.in-Text.is refl

pub returns-in-Element : goal.returns-in-Element
unfolding kind_of fields_of zeros
returns-in-Element c = rw c.in-Element.is refl

pub returns-in-Pair : goal.returns-in-Pair
unfolding kind_of fields_of zeros
returns-in-Pair c = rw c.in-Pair.is refl

pub returns-in-Union : goal.returns-in-Union
unfolding kind_of fields_of zeros
returns-in-Union c = rw c.in-Union.is refl

pub returns-in-Star : goal.returns-in-Star
unfolding kind_of fields_of zeros
returns-in-Star c = rw c.in-Star.is refl

pub returns-in-Plus : goal.returns-in-Plus
unfolding kind_of fields_of zeros
returns-in-Plus c = rw c.in-Plus.is refl

pub returns-in-Opt : goal.returns-in-Opt
unfolding kind_of fields_of zeros
returns-in-Opt c = rw c.in-Opt.is refl

pub returns-in-Name : goal.returns-in-Name
unfolding kind_of fields_of zeros
returns-in-Name c = rw c.in-Name.is refl
