-- Each reason has a number of its own, so an answer is fixed by what is told of it.
-- Assumes nothing.
use mathlib.Core.Path.{◌≡◌, refl, sym, ap, ◌∙◌}
use mathlib.Core.List.{List, [], ◌∷◌}
use Prim.Native.Nat.{ℕ}
use Rattle.std.specs.Prelude.{Result, Ok, Err}
use Rattle.meaning.specs.Base.{ok, refused, find, otherwise}
use Rattle.refusals.specs.declared.Reason.{Reason}
use Rattle.refusals.specs.declared.Refusal.{Refusal}
use Rattle.refusals.specs.Says.{number_of, told}

-- the reason of a number
rows : List (ℕ × Reason)
rows =
    (1, Reason.Cut) ∷ (2, Reason.UnknownKind) ∷ (3, Reason.WrongLength) ∷ (4, Reason.OutOfOrder) ∷ (5, Reason.TooMany) ∷ (6, Reason.Unfit) ∷ (7, Reason.DeclaredTwice) ∷ (8, Reason.NoQuery) ∷ (9, Reason.NoDefinition) ∷ (10, Reason.Circle) ∷ (11, Reason.NotTrees) ∷ (12, Reason.NotUsedOnce) ∷ (13, Reason.NotInScope) ∷ (14, Reason.InScope) ∷ (15, Reason.OfForest) ∷ (16, Reason.TypesFull) ∷ (17, Reason.AnswerShort) ∷ (18, Reason.WrongValues) ∷ (19, Reason.NotOneTree) ∷ (20, Reason.ValuesFull) ∷ (21, Reason.WorkFull) ∷ (22, Reason.NoSuchText) ∷ (23, Reason.TooDeep) ∷ (30, Reason.RoomShort) ∷ []

reason_of : ℕ → Reason
reason_of n = otherwise Reason.Cut (find n rows)

reason_is : (r : Reason) → reason_of (number_of r) ≡ r
unfolding find rows reason_of
reason_is Reason.Cut = refl
reason_is Reason.UnknownKind = refl
reason_is Reason.WrongLength = refl
reason_is Reason.OutOfOrder = refl
reason_is Reason.TooMany = refl
reason_is Reason.Unfit = refl
reason_is Reason.DeclaredTwice = refl
reason_is Reason.NoQuery = refl
reason_is Reason.NoDefinition = refl
reason_is Reason.Circle = refl
reason_is Reason.NotTrees = refl
reason_is Reason.NotUsedOnce = refl
reason_is Reason.NotInScope = refl
reason_is Reason.InScope = refl
reason_is Reason.OfForest = refl
reason_is Reason.TypesFull = refl
reason_is Reason.AnswerShort = refl
reason_is Reason.WrongValues = refl
reason_is Reason.NotOneTree = refl
reason_is Reason.ValuesFull = refl
reason_is Reason.WorkFull = refl
reason_is Reason.NoSuchText = refl
reason_is Reason.TooDeep = refl
reason_is Reason.RoomShort = refl

-- two reasons with one number are one
pub number_same : (r s : Reason) → number_of r ≡ number_of s → r ≡ s
number_same r s e = sym (reason_is r) ∙ ap reason_of e ∙ reason_is s

-- WHAT IS TOLD of an answer: the answer, or the refusal's number and place
pub told_ok : {A : Type 0} (r : Result A Refusal) {a : A} → told r ≡ ok a → r ≡ Ok a
told_ok (Ok x) e = cc
told_ok (Err x) e = cc

pub told_err : {A : Type 0} (r : Refusal) {n place : ℕ} → told {A = A} (Err r) ≡ refused n place → (number_of r.reason ≡ n) × (r.place ≡ place)
told_err r e = (cc, cc)

pub told_same : {A : Type 0} (r s : Result A Refusal) → told r ≡ told s → r ≡ s
told_same (Ok x) (Ok y) e = cc
told_same (Ok x) (Err y) e = cc
told_same (Err x) (Ok y) e = cc
told_same (Err x) (Err y) e =
    let n : number_of x.reason ≡ number_of y.reason = cc in
    let p : x.place ≡ y.place = cc in
    let q = number_same x.reason y.reason n in
    λ j. Err (record { reason = q j; place = p j })
