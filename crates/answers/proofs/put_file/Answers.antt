-- `answers::put_file` meets its contract: the three parts, one behind the other, are the file.
-- Assumes nothing.
use native.Mathlib.Omega.{arith}
use Rattle.answers.proofs.Turns.{def_length}
use Rattle.answers.proofs.Whole.{typed, file_length, file_put}
use Rattle.answers.proofs.put_file.Goals as goal

pub put_types-from-requires : goal.put_types-from-requires
put_types-from-requires c = record { typed = typed c.requires.ready; room = omega (arith, file_length c.requires.ready, c.requires.room) }

pub put_defs-last-requires : goal.put_defs-last-requires
put_defs-last-requires c = omega (arith, file_length c.requires.ready, c.requires.room, c.put_types-from.ensures.next, c.put_types-from.auto.answer)

pub put_one-requires : goal.put_one-requires
put_one-requires c =
    omega (arith, file_length c.requires.ready, def_length c.args.defs.now, c.requires.room, c.put_types-from.ensures.next, c.put_defs-last.ensures.next, c.put_types-from.auto.answer, c.put_defs-last.auto.answer)

pub returns : goal.returns
returns c =
    file_put c.requires.ready c.put_types-from.ensures c.put_defs-last.ensures (omega (arith, c.put_defs-last.ensures.next)) c.put_one.ensures
