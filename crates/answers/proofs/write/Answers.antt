-- `answers::write` meets its contract: the length is the file's, and the buffer holds the file with zeros after it, or zeros.
-- Assumes nothing.
use Rattle.words.proofs.Stores.{blanked_whole}
use Rattle.answers.proofs.Whole.{typed, file_length, file_small, result_small, left_short, left_written}
use native.Mathlib.Omega.{arith}
use Rattle.answers.proofs.write.Goals as goal

pub types_size-requires : goal.types_size-requires
types_size-requires c =
    typed c.requires

pub overflow_mul-needed : goal.overflow_mul-needed
overflow_mul-needed c =
    omega (arith, file_length c.requires, file_small c.requires)

pub overflow_add-needed : goal.overflow_add-needed
overflow_add-needed c =
    omega (arith, file_length c.requires, file_small c.requires, c.types_size.ensures)

pub overflow_add-needed-2 : goal.overflow_add-needed-2
overflow_add-needed-2 c =
    omega (arith, file_length c.requires, file_small c.requires, c.types_size.ensures)

pub returns-then-answer-needed : goal.returns-then-answer-needed
returns-then-answer-needed c =
    left_short c.requires _ (omega (arith, file_length c.requires, c.types_size.ensures)) (omega (arith, c.if-answer-needed.true)) (blanked_whole c.args.answer.now c.clear_bytes.ensures)

pub overflow_cast-res : goal.overflow_cast-res
overflow_cast-res c =
    omega (arith, result_small c.requires)

pub put_file-requires : goal.put_file-requires
put_file-requires c =
    record { ready = c.requires; room = omega (arith, file_length c.requires, c.types_size.ensures, c.if-answer-needed.false) }

pub returns : goal.returns
returns c =
    left_written c.requires _ (omega (arith, file_length c.requires, c.types_size.ensures)) (omega (arith, c.if-answer-needed.false)) c.put_file.ensures c.put_file.auto.answer c.clear_bytes-2.ensures
