-- `text_compare::put_compared` meets its contract. Assumes nothing.
use borrow.Author.Rules.{rules}
use Rattle.text_compare_spec.proofs.CompareTextLaws.{compareTexts}
use Rattle.text_compare.proofs.put_compared.Goals as goal

pub returns-in-Ok : goal.returns-in-Ok
returns-in-Ok c = search (rules, compareTexts)

pub returns-in-Err-First : goal.returns-in-Err-First
returns-in-Err-First c = search (rules, compareTexts)

pub returns-in-Err-Second : goal.returns-in-Err-Second
returns-in-Err-Second c = search (rules, compareTexts)

pub returns-in-Err-Both : goal.returns-in-Err-Both
returns-in-Err-Both c = search (rules, compareTexts)
