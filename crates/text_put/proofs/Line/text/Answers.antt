-- `text_put::Line::text` meets its contract. Assumes nothing.
use Rattle.text_put_spec.proofs.PartLaws.{parts}
use Rattle.text_put_spec.proofs.TextLaws.{texts}
use borrow.Author.Rules.{rules}
use Rattle.text_put.proofs.Line.text.Goals.{then-room-text-via-then-room-text, then-room-text-via-else-room-text+then-room-text-2}
use Rattle.text_put.proofs.Line.text.Goals as goal

pub returns : goal.returns
returns c = search (rules, texts, parts)

pub returns-then-room-text : goal.returns-then-room-text
returns-then-room-text c = elim c.then-room-text.branch [ then-room-text-via-then-room-text w ↦ search (rules, texts, parts) | then-room-text-via-else-room-text+then-room-text-2 w ↦ search (rules, texts, parts) ]
