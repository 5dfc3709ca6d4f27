-- `text_fields::put_content` meets its contract. Assumes nothing.
use borrow.Author.Rules.{rules}
use Rattle.text_fields_spec.proofs.ContentTextLaws.{contentTexts}
use Rattle.text_fields.proofs.put_content.Goals as goal

pub returns-in-0 : goal.returns-in-0
returns-in-0 c = search (rules, contentTexts)

pub returns-in-1 : goal.returns-in-1
returns-in-1 c = search (rules, contentTexts)

pub returns-in-2 : goal.returns-in-2
returns-in-2 c = search (rules, contentTexts)

pub returns-in-3 : goal.returns-in-3
returns-in-3 c = search (rules, contentTexts)

pub returns-in_default : goal.returns-in_default
returns-in_default c = search (rules, contentTexts)
