-- `mac_header::read` meets its contract. Assumes nothing.
use Rattle.mac_header_spec.proofs.ControlLaws.{controlling}
use borrow.Author.Rules.{rules}
use Rattle.mac_header.proofs.read.Goals as goal

pub returns : goal.returns
returns c = search (rules, controlling) depth 12
