-- `spelling::put_digits` meets its contract: one digit, or one behind those of a tenth, of which fewer are asked for.
-- Assumes nothing.
use Rattle.spelling.proofs.+put_digits.Given as goal

abbrev pub decreases-put_digits : goal.decreases-put_digits
decreases-put_digits l = l.most
