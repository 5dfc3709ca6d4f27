-- `text_compare::put_line` meets its contract. Assumes nothing.
use borrow.Author.Rules.{rules}
use Rattle.text_compare_spec.proofs.CompareTextLaws.{compareTexts}
use Rattle.text_compare.proofs.put_line.Goals as goal

pub returns : goal.returns
returns c = search (rules, compareTexts)
