-- `eb_record::sequence_from` meets its contract. Assumes nothing.
use Rattle.eb_record.proofs.RecordLaws.{forms}
use borrow.Author.Rules.{rules}
use Rattle.eb_record.proofs.sequence_from.Goals as goal

pub returns-then-sequenced : goal.returns-then-sequenced
returns-then-sequenced c = search (rules, forms)

pub returns : goal.returns
returns c = search (rules, forms)
