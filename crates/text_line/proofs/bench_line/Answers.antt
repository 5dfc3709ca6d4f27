-- `text_line::bench_line` meets its contract. Assumes nothing.
use mathlib.Core.Path.{◌≡◌}
use native.Mathlib.Omega.{arith}
use lib.ListN.{length}
use Rattle.text_put_spec.specs.Part.{starts_with}
use Rattle.text_put_spec.proofs.PartLaws.{lines}
use Rattle.text_line_spec.specs.Line.{line_for}
use Rattle.text_line_spec.proofs.LineLaws.{beaconLines}
use borrow.Author.Rules.{rules}
use Rattle.text_line.proofs.bench_line.Goals as goal

pub returns-then-buffer-lt-ROOM : goal.returns-then-buffer-lt-ROOM
returns-then-buffer-lt-ROOM c = search (rules, lines, beaconLines)

pub returns-clause-answer : goal.returns-clause-answer
returns-clause-answer c = search (rules, lines, beaconLines)

-- the lent buffer is what the line leaves in it
pub returns-clause-buffer : goal.returns-clause-buffer
returns-clause-buffer c =
    let put : c.put_line.new.line.buffer.now ≡ starts_with (line_for (length c.args.buffer.now) c.args.s.now) c.args.buffer.now = search (rules, lines, beaconLines) in
    grind arith
