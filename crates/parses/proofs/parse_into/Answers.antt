-- `parses::parse_into` meets its contract.
-- Assumes nothing.
use Rattle.parses.proofs.Finishing.{parse_few, parsed_left}
use Rattle.parses.proofs.parse_into.Goals as goal

pub settle-requires-clause-few : goal.settle-requires-clause-few
settle-requires-clause-few c = parse_few c.parse_with-parsed.ensures

pub returns : goal.returns
returns c = parsed_left _ c.parse_with-parsed.ensures c.settle.ensures
