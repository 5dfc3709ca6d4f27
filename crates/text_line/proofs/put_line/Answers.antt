-- `text_line::put_line` meets its contract. Assumes nothing.
use Rattle.text_line_spec.proofs.LineLaws.{beaconLines}
use borrow.Author.Rules.{rules}
use Rattle.text_line.proofs.put_line.Goals as goal

pub returns-in-Ok : goal.returns-in-Ok
returns-in-Ok c = search (rules, beaconLines)

pub returns-in-Err : goal.returns-in-Err
returns-in-Err c = search (rules, beaconLines)
