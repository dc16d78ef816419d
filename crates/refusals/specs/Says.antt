-- The code's refusals by their numbers, and an answer of the code as an answer of `meaning`.
-- Assumes nothing.
use Rattle.std.specs.Prelude.{ℕ, Result, Ok, Err}
use Rattle.meaning.specs.Base.{Out, ok, refused}
use Rattle.refusals.specs.declared.Reason.{Reason}
use Rattle.refusals.specs.declared.Refusal.{Refusal}

abbrev pub number_of : Reason → ℕ
number_of Reason.Cut = 1
number_of Reason.UnknownKind = 2
number_of Reason.WrongLength = 3
number_of Reason.OutOfOrder = 4
number_of Reason.TooMany = 5
number_of Reason.Unfit = 6
number_of Reason.DeclaredTwice = 7
number_of Reason.NoQuery = 8
number_of Reason.NoDefinition = 9
number_of Reason.Circle = 10
number_of Reason.NotTrees = 11
number_of Reason.NotUsedOnce = 12
number_of Reason.NotInScope = 13
number_of Reason.InScope = 14
number_of Reason.OfForest = 15
number_of Reason.TypesFull = 16
number_of Reason.AnswerShort = 17
number_of Reason.WrongValues = 18
number_of Reason.NotOneTree = 19
number_of Reason.ValuesFull = 20
number_of Reason.WorkFull = 21
number_of Reason.NoSuchText = 22
number_of Reason.TooDeep = 23
number_of Reason.RoomShort = 30

-- what the code answers, read by f where it is an answer
abbrev pub out : {A B : Type 0} → (A → B) → Result A Refusal → Out B
out f (Ok a) = ok (f a)
out f (Err r) = refused (number_of r.reason) r.place

-- what the code answers, as an answer of `meaning`
abbrev pub told : {A : Type 0} → Result A Refusal → Out A
told (Ok a) = ok a
told (Err r) = refused (number_of r.reason) r.place
