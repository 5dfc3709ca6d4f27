-- `text_compare::put_lines` meets its contract. Assumes nothing.
use borrow.Author.Rules.{rules}
use Rattle.text_compare_spec.proofs.CompareTextLaws.{compareTexts}
use Rattle.text_compare.proofs.put_lines.Goals as goal

pub loop-difference-init : goal.loop-difference-init
loop-difference-init c = search (rules, compareTexts)

pub loop-difference-preserved : goal.loop-difference-preserved
loop-difference-preserved c = search (rules, compareTexts)

pub returns : goal.returns
returns c = search (rules, compareTexts)
