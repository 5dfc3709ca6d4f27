-- `text_compare::compare_text` meets its contract. Assumes nothing.
use mathlib.Core.Path.{◌≡◌}
use native.Mathlib.Omega.{arith}
use lib.ListN.{length}
use Rattle.text_put_spec.specs.Part.{starts_with}
use Rattle.text_put_spec.proofs.PartLaws.{lines}
use Rattle.text_compare_spec.specs.CompareText.{compare_text_for}
use Rattle.text_compare_spec.proofs.CompareTextLaws.{compareTexts}
use borrow.Author.Rules.{rules}
use Rattle.text_compare.proofs.compare_text.Goals as goal

pub returns-then-buffer-lt-ROOM : goal.returns-then-buffer-lt-ROOM
returns-then-buffer-lt-ROOM c = search (rules, lines, compareTexts)

pub returns-clause-answer : goal.returns-clause-answer
returns-clause-answer c = search (rules, lines, compareTexts)

-- the lent buffer is what the line leaves in it
pub returns-clause-buffer : goal.returns-clause-buffer
returns-clause-buffer c =
    let put : c.put_compared.new.line.buffer.now ≡ starts_with (compare_text_for (length c.args.buffer.now) c.args.first.now c.args.second.now) c.args.buffer.now = search (rules, lines, compareTexts) in
    grind arith
