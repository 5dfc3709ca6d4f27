-- `eb_record::address_from` meets its contract. Assumes nothing.
use Rattle.eb_record.proofs.RecordLaws.{forms}
use borrow.Author.Rules.{rules}
use Rattle.eb_record.proofs.address_from.Goals as goal

pub returns-then-extended : goal.returns-then-extended
returns-then-extended c = search (rules, forms)

pub returns : goal.returns
returns c = search (rules, forms)
