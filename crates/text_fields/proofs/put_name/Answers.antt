-- `text_fields::put_name` meets its contract. Assumes nothing.
use borrow.Author.Rules.{rules}
use Rattle.text_fields.proofs.NameLaws.{names, elementNames}
use Rattle.text_fields.proofs.put_name.Goals as goal

pub returns-then-place-lt-SYNCHRONIZATION : goal.returns-then-place-lt-SYNCHRONIZATION
returns-then-place-lt-SYNCHRONIZATION c = search (rules, names, elementNames)

pub returns-then-place-lt-TIMESLOT : goal.returns-then-place-lt-TIMESLOT
returns-then-place-lt-TIMESLOT c = search (rules, names, elementNames)

pub returns-then-place-lt-HOPPING : goal.returns-then-place-lt-HOPPING
returns-then-place-lt-HOPPING c = search (rules, names, elementNames)

pub returns-then-place-lt-SLOTFRAME : goal.returns-then-place-lt-SLOTFRAME
returns-then-place-lt-SLOTFRAME c = search (rules, names, elementNames)

pub returns-then-place-lt-JOINING : goal.returns-then-place-lt-JOINING
returns-then-place-lt-JOINING c = search (rules, names, elementNames)

pub returns : goal.returns
returns c = search (rules, names, elementNames)
