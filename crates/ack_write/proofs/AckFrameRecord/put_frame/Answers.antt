-- `ack_write::AckFrameRecord::put_frame` meets its contract. Assumes nothing.
use Rattle.ack_write.proofs.FrameLaws.{correction_outside}
use borrow.Author.Rules.{rules}
use Rattle.ack_write.proofs.AckFrameRecord.put_frame.Goals as goal

pub returns-else-is_correction : goal.returns-else-is_correction
returns-else-is_correction c = λ within. absurd (correction_outside c.args.self.now.0 _ _ c.is_correction.ensures (search rules) c.if-is_correction.false within)
