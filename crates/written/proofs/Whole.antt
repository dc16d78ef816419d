-- The query of a job that was accepted is ready to be written.
-- Assumes nothing.
use Rattle.meaning.specs.Base.{Caps}
use Rattle.meaning.specs.Records.{Tables}
use Rattle.meaning.proofs.Accepting.{Accepted}
use Rattle.uses.specs.Counts.{Lowers}
use Rattle.written.specs.Says.{Ready}

pub accepted_ready : {caps : Caps} {t : Tables} → Accepted caps t → Lowers t.code → Ready t.code
accepted_ready a c = record { lowers = c; rooted = a.rooted; root = a.root; once = a.once }
