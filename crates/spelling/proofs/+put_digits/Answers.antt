-- `spelling::put_digits` meets its contract: one digit, or one behind those of a tenth, of which fewer are asked for.
-- Assumes nothing.
use mathlib.Core.Path.{refl}
use Prim.Native.Nat.{◌-◌, ◌/◌}
use native.Mathlib.Omega.{arith}
use Rattle.spelling.proofs.Spelling.{none_put, one_put, more_put, digits_most}
use Rattle.spelling.proofs.+put_digits.Goals as goal

pub returns-then-most-eq0 : goal.returns-then-most-eq0
returns-then-most-eq0 t c =
    none_put _ c.if-most-eq0.true

pub returns-then-n-lt10 : goal.returns-then-n-lt10
returns-then-n-lt10 t c =
    one_put c.if-most-eq0.false c.if-n-lt10.true refl c.put_byte.ensures

pub overflow_add-result-2 : goal.overflow_add-result-2
overflow_add-result-2 t c =
    omega (arith, c.requires.0, c.requires.1, c.put_digits-next.ensures.next, digits_most (c.args.most - 1) (c.args.n / 10))

pub returns : goal.returns
returns t c =
    more_put c.if-most-eq0.false c.if-n-lt10.false refl c.put_digits-next.ensures c.put_byte-2.ensures
