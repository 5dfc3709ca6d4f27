-- `text_fields::put_header_name` meets its contract. Assumes nothing.
use borrow.Author.Rules.{rules}
use Rattle.text_fields.proofs.NameLaws.{names, elementNames}
use Rattle.text_fields.proofs.put_header_name.Goals as goal

pub returns-in-1 : goal.returns-in-1
returns-in-1 c = search (rules, names, elementNames)

pub returns-in-2 : goal.returns-in-2
returns-in-2 c = search (rules, names, elementNames)

pub returns-in_default : goal.returns-in_default
returns-in_default c = search (rules, names, elementNames)

pub returns-in-0 : goal.returns-in-0
returns-in-0 c = search (rules, names, elementNames)
