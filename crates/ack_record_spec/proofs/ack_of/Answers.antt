-- `ack_record_spec::ack_of` meets its contract. Assumes nothing.
use Rattle.ack_record_spec.proofs.FormLaws.{forms}
use borrow.Author.Rules.{rules}
use Rattle.ack_record_spec.proofs.ack_of.Goals as goal

pub returns : goal.returns
returns c = search (rules, forms)
