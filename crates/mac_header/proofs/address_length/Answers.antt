-- `mac_header::address_length` meets its contract. Assumes nothing.
use Rattle.mac_header_spec.specs.Fields.{address_length}
use Rattle.mac_header_spec.proofs.ControlLaws.{controlling}
use borrow.Author.Rules.{rules}
use Rattle.mac_header.proofs.address_length.Goals as goal

pub returns-then-mode-eq-EXTENDED : goal.returns-then-mode-eq-EXTENDED
unfolding address_length
returns-then-mode-eq-EXTENDED c = search (rules, controlling) depth 12

pub returns : goal.returns
unfolding address_length
returns c = search (rules, controlling) depth 12
