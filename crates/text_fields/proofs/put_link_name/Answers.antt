-- `text_fields::put_link_name` meets its contract. Assumes nothing.
use borrow.Author.Rules.{rules}
use Rattle.text_fields.proofs.NameLaws.{names, elementNames}
use Rattle.text_fields.proofs.put_link_name.Goals as goal

pub returns-then-link-ge16 : goal.returns-then-link-ge16
returns-then-link-ge16 c = search (rules, names, elementNames)

pub returns : goal.returns
returns c = search (rules, names, elementNames)
