-- `mac_header::pan_offset` meets its contract. Assumes nothing.
use Rattle.mac_header_spec.proofs.ControlLaws.{controlling}
use borrow.Author.Rules.{rules}
use Rattle.mac_header.proofs.pan_offset.Goals as goal

pub returns-then-suppressed-eq0 : goal.returns-then-suppressed-eq0
returns-then-suppressed-eq0 c = search (rules, controlling) depth 12

pub returns : goal.returns
returns c = search (rules, controlling) depth 12
