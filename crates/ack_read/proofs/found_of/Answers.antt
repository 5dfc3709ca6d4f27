-- `ack_read::found_of` meets its contract. Assumes nothing.
use Rattle.mac_header_spec.proofs.ControlLaws.{starts_are, ends_are}
use Rattle.ack_read_spec.proofs.ReadLaws.{found_at}
use borrow.Author.Rules.{rules}
use Rattle.ack_read.proofs.found_of.Goals as goal

pub returns : goal.returns
returns c = search (rules, found_at, starts_are, ends_are)
