-- `records::form_of` meets its contract: a single kind by its row of the grammar, a range by the rows in it or because it has none.
-- Assumes nothing.
use mathlib.Core.Path.{refl}
use mathlib.Core.List.{[], ◌∷◌}
use Rattle.meaning.specs.Base.{find}
use Rattle.meaning.specs.Records.{forms}
use Rattle.records.proofs.Arms.{one_of, single, keyed, ranged, unknown, own_values}
use borrow.Author.Rules.{rules}
use Rattle.records.proofs.form_of.Goals as goal

pub returns-in-3 : goal.returns-in-3
unfolding find forms
returns-in-3 c = keyed (3 ∷ []) c.two-form.ensures (refl, tt) c.in-3.is

pub returns-in-9 : goal.returns-in-9
unfolding find forms
returns-in-9 c = keyed (9 ∷ []) c.one-form.ensures (refl, tt) c.in-9.is

pub returns-in-16 : goal.returns-in-16
unfolding find forms
returns-in-16 c = keyed (16 ∷ []) c.one-form-in-16.ensures (refl, tt) c.in-16.is

pub returns-in-33 : goal.returns-in-33
unfolding find forms
returns-in-33 c = keyed (33 ∷ []) c.one-form-in-33.ensures (refl, tt) c.in-33.is

pub returns-in-34 : goal.returns-in-34
unfolding find forms
returns-in-34 c = keyed (34 ∷ []) c.two-form-in-34.ensures (refl, tt) c.in-34.is

pub returns-in-35 : goal.returns-in-35
unfolding find forms
returns-in-35 c = keyed (35 ∷ []) c.two-form-in-35.ensures (refl, tt) c.in-35.is

pub returns-in-36 : goal.returns-in-36
unfolding find forms
returns-in-36 c = keyed (36 ∷ 51 ∷ []) c.one-form-in-36.ensures (refl, (refl, tt)) c.in-36.is

pub returns-in-41 : goal.returns-in-41
unfolding find forms
returns-in-41 c = keyed (41 ∷ []) c.two-form-in-41.ensures (refl, tt) c.in-41.is

pub returns-in-50 : goal.returns-in-50
unfolding find forms
returns-in-50 c = keyed (50 ∷ []) c.two-form-in-50.ensures (refl, tt) c.in-50.is

pub returns-in-52 : goal.returns-in-52
unfolding find forms
returns-in-52 c = keyed (52 ∷ []) c.two-form-in-52.ensures (refl, tt) c.in-52.is

pub returns-in-53 : goal.returns-in-53
unfolding find forms
returns-in-53 c = keyed (53 ∷ []) c.one-form-in-53.ensures (refl, tt) c.in-53.is

pub returns-in-64-to-66 : goal.returns-in-64-to-66
returns-in-64-to-66 c = own_values c.value_form.ensures (search rules) (search rules)

pub returns-in-80 : goal.returns-in-80
unfolding find forms
returns-in-80 c = keyed (80 ∷ []) c.one-form-in-80.ensures (refl, tt) c.in-80.is

pub returns-in-4-to-5 : goal.returns-in-4-to-5
unfolding find forms one_of single
returns-in-4-to-5 c =
    ranged 3 3 c.two-form-in-4-to-5.ensures (tt, (refl, (refl, tt))) c.in-4-to-5.in_default-own.rest (search rules) (search rules)

pub returns-in-6-to-8 : goal.returns-in-6-to-8
unfolding find forms one_of single
returns-in-6-to-8 c =
    ranged 6 3 c.one-form-in-6-to-8.ensures (refl, (refl, (refl, tt))) c.in-6-to-8.in_default-own.rest (search rules) (search rules)

pub returns-in-17-to-18 : goal.returns-in-17-to-18
unfolding find forms one_of single
returns-in-17-to-18 c =
    ranged 16 3 c.two-form-in-17-to-18.ensures (tt, (refl, (refl, tt))) c.in-17-to-18.in_default-own.rest (search rules) (search rules)

pub returns-in-37-to-38 : goal.returns-in-37-to-38
unfolding find forms one_of single
returns-in-37-to-38 c =
    ranged 32 7 c.two-form-in-37-to-38.ensures (tt, (tt, (tt, (tt, (tt, (refl, (refl, tt))))))) c.in-37-to-38.in_default-own.rest (search rules) (search rules)

pub returns-in-39-to-40 : goal.returns-in-39-to-40
unfolding find forms one_of single
returns-in-39-to-40 c =
    ranged 39 2 c.three-form.ensures (refl, (refl, tt)) c.in-39-to-40.in_default-own.rest (search rules) (search rules)

pub returns-in_default : goal.returns-in_default
unfolding forms one_of single
returns-in_default c = unknown 0 3 refl c.in_default.in_default-own.rest (search rules) (search rules)

pub returns-in_default-2 : goal.returns-in_default-2
unfolding forms one_of single
returns-in_default-2 c = unknown 9 16 refl c.in_default.in_default-own.rest (search rules) (search rules)

pub returns-in_default-3 : goal.returns-in_default-3
unfolding forms one_of single
returns-in_default-3 c = unknown 19 32 refl c.in_default.in_default-own.rest (search rules) (search rules)

pub returns-in_default-4 : goal.returns-in_default-4
unfolding forms one_of single
returns-in_default-4 c = unknown 41 48 refl c.in_default.in_default-own.rest (search rules) (search rules)

pub returns-in_default-5 : goal.returns-in_default-5
unfolding forms one_of single
returns-in_default-5 c = unknown 50 64 refl c.in_default.in_default-own.rest (search rules) (search rules)

pub returns-in_default-6 : goal.returns-in_default-6
unfolding forms one_of single
returns-in_default-6 c = unknown 67 65536 refl c.in_default.in_default-own.rest (search rules) (search rules)

pub returns-in-32 : goal.returns-in-32
unfolding find forms
returns-in-32 c = keyed (32 ∷ []) c.bare-form.ensures (refl, tt) c.in-32.is

pub returns-in-48-to-49 : goal.returns-in-48-to-49
unfolding find forms one_of single
returns-in-48-to-49 c =
    ranged 48 2 c.bare-form-in-48-to-49.ensures (refl, (refl, tt)) c.in-48-to-49.in_default-own.rest (search rules) (search rules)
