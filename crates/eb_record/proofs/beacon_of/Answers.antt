-- `eb_record::beacon_of` meets its contract. Assumes nothing.
use Rattle.eb_record.proofs.RecordLaws.{forms}
use borrow.Author.Rules.{rules}
use Rattle.eb_record.proofs.beacon_of.Goals as goal

pub returns : goal.returns
returns c = search (rules, forms)
