-- `entries::Ty::of_kind` meets its contract: one row for each kind, and all others at once. Assumes nothing.
use mathlib.Core.Path.{refl}
use Rattle.meaning.specs.Base.{find}
use Rattle.meaning.specs.Types.{entry_of}
use Rattle.entries.proofs.Numbers.{entry_rest}
use Rattle.entries.proofs.Ty.of_kind.Goals as goal

pub returns-in-2 : goal.returns-in-2
unfolding entry_of find
returns-in-2 c = rw c.in-2.is refl

pub returns-in-3 : goal.returns-in-3
unfolding entry_of find
returns-in-3 c = rw c.in-3.is refl

pub returns-in-4 : goal.returns-in-4
unfolding entry_of find
returns-in-4 c = rw c.in-4.is refl

pub returns-in-5 : goal.returns-in-5
unfolding entry_of find
returns-in-5 c = rw c.in-5.is refl

pub returns-in-6 : goal.returns-in-6
unfolding entry_of find
returns-in-6 c = rw c.in-6.is refl

pub returns-in-7 : goal.returns-in-7
unfolding entry_of find
returns-in-7 c = rw c.in-7.is refl

pub returns-in-8 : goal.returns-in-8
unfolding entry_of find
returns-in-8 c = rw c.in-8.is refl

pub returns-in-9 : goal.returns-in-9
unfolding entry_of find
returns-in-9 c = rw c.in-9.is refl

pub returns-in_default : goal.returns-in_default
returns-in_default c =
    entry_rest _ _ _ c.in_default.in_default-own.rest.0.0.0.0.0.0.0.1 c.in_default.in_default-own.rest.0.0.0.0.0.0.1 c.in_default.in_default-own.rest.0.0.0.0.0.1 c.in_default.in_default-own.rest.0.0.0.0.1 c.in_default.in_default-own.rest.0.0.0.1 c.in_default.in_default-own.rest.0.0.1 c.in_default.in_default-own.rest.0.1 c.in_default.in_default-own.rest.1
