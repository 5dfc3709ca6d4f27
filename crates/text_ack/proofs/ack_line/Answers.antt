-- `text_ack::ack_line` meets its contract. Assumes nothing.
use mathlib.Core.Path.{◌≡◌}
use native.Mathlib.Omega.{arith}
use lib.ListN.{length}
use Rattle.text_put_spec.specs.Part.{starts_with}
use Rattle.text_put_spec.proofs.PartLaws.{lines}
use Rattle.text_ack_spec.specs.AckLine.{ack_line_for}
use Rattle.text_ack_spec.proofs.AckLineLaws.{ackLines}
use borrow.Author.Rules.{rules}
use Rattle.text_ack.proofs.ack_line.Goals as goal

pub returns-then-buffer-lt-ROOM : goal.returns-then-buffer-lt-ROOM
returns-then-buffer-lt-ROOM c = search (rules, lines, ackLines)

pub returns-clause-answer : goal.returns-clause-answer
returns-clause-answer c = search (rules, lines, ackLines)

-- the lent buffer is what the line leaves in it
pub returns-clause-buffer : goal.returns-clause-buffer
returns-clause-buffer c =
    let put : c.put_line.new.line.buffer.now ≡ starts_with (ack_line_for (length c.args.buffer.now) c.args.s.now) c.args.buffer.now = search (rules, lines, ackLines) in
    grind arith
