-- `text_put::Line::octets` meets its contract. Assumes nothing.
use Rattle.text_put_spec.proofs.PartLaws.{parts}
use Rattle.text_put_spec.proofs.TextLaws.{texts}
use borrow.Author.Rules.{rules}
use Rattle.text_put.proofs.Line.octets.Goals as goal

pub returns : goal.returns
returns c = search (rules, texts, parts)

pub loop-value-init : goal.loop-value-init
loop-value-init c = search (rules, parts)

pub loop-value-preserved : goal.loop-value-preserved
loop-value-preserved c = search (rules, parts)
