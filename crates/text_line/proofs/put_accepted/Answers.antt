-- `text_line::put_accepted` meets its contract. Assumes nothing.
use Rattle.text_line_spec.proofs.LineLaws.{beaconLines}
use borrow.Author.Rules.{rules}
use Rattle.text_line.proofs.put_accepted.Goals as goal

pub returns : goal.returns
returns c = search (rules, beaconLines)
