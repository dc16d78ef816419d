-- What a type of this crate says: the entry of `meaning` that it is.
-- Assumes nothing.
use Rattle.meaning.specs.Types.{Entry, empty, string, element, pair, union, star, plus, opt, name}
use Rattle.entries.specs.declared.Ty.{Ty}

abbrev pub shown : Ty → Entry
shown Ty.Empty = empty
shown Ty.Text = string
shown (Ty.Element l c) = element l c
shown (Ty.Pair a b) = pair a b
shown (Ty.Union a b) = union a b
shown (Ty.Star a) = star a
shown (Ty.Plus a) = plus a
shown (Ty.Opt a) = opt a
shown (Ty.Name d) = name d
