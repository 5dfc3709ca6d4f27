-- `text_fields::put_octets` meets its contract. Assumes nothing.
use borrow.Author.Rules.{rules}
use Rattle.text_fields_spec.proofs.ContentTextLaws.{contentTexts}
use Rattle.text_fields.proofs.put_octets.Goals as goal

pub returns : goal.returns
returns c = search (rules, contentTexts)
