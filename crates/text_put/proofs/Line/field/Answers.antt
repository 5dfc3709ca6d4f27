-- `text_put::Line::field` meets its contract. Assumes nothing.
use Rattle.text_put_spec.proofs.PartLaws.{parts}
use Rattle.text_put_spec.proofs.TextLaws.{texts}
use borrow.Author.Rules.{rules}
use Rattle.text_put.proofs.Line.field.Goals as goal

pub returns : goal.returns
returns c = search (rules, texts, parts)
