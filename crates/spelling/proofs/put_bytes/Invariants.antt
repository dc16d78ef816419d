-- `spelling::put_bytes`: the bytes so far stand in the buffer.
use lib.ListN.{take}
use Rattle.spelling.specs.Says.{Spells}
use Rattle.spelling.proofs.put_bytes.Given as goal

abbrev pub invariant-loop-byte : goal.invariant-loop-byte
invariant-loop-byte l = Spells l.at l.next (take l.byte-index l.bytes) l.initial.out l.out
