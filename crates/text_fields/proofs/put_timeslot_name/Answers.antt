-- `text_fields::put_timeslot_name` meets its contract. Assumes nothing.
use borrow.Author.Rules.{rules}
use Rattle.text_fields.proofs.NameLaws.{names, elementNames}
use Rattle.text_fields.proofs.put_timeslot_name.Goals as goal

pub returns-then-place-eq0 : goal.returns-then-place-eq0
returns-then-place-eq0 c = search (rules, names, elementNames)

pub returns : goal.returns
returns c = search (rules, names, elementNames)
