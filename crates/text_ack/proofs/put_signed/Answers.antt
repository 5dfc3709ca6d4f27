-- `text_ack::put_signed` meets its contract: a signed number is held by its bits. Assumes nothing.
use mathlib.Core.Path.{◌≡◌}
use mir.Syntax.{w32}
use mir.Val.{to_z, of_z}
use mir.Facts.{to_z-of_z}
use Rattle.text_ack_spec.proofs.AckLineLaws.{ackLines}
use borrow.Author.Rules.{rules}
use Rattle.text_ack.proofs.put_signed.Goals.{then-negative, else-negative}
use Rattle.text_ack.proofs.put_signed.Goals as goal

pub returns : goal.returns
returns c =
    let number : to_z w32 (of_z w32 c.args.value) ≡ c.args.value = to_z-of_z c.ranges.value in
    elim c.if-negative.branch [
      | then-negative w ↦ let put = rw w.line-is at c.decimal.ensures.part in search (rules, ackLines)
      | else-negative w ↦ let put = rw w.line-is at c.decimal.ensures.part in search (rules, ackLines)
    ]
