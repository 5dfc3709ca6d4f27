-- `mac_header::sequence` meets its contract. Assumes nothing.
use Rattle.mac_header_spec.proofs.ControlLaws.{controlling}
use borrow.Author.Rules.{rules}
use Rattle.mac_header.proofs.sequence.Goals as goal

pub returns : goal.returns
returns c = search (rules, controlling) depth 12

pub overflow_cast-result : goal.overflow_cast-result
overflow_cast-result c = search (rules, controlling) depth 12
