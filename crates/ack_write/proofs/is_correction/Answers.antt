-- `ack_write::is_correction` meets its contract. Assumes nothing.
use Rattle.ack_write.proofs.FrameLaws.{is_tested}
use Rattle.ack_write.proofs.is_correction.Goals as goal

pub returns : goal.returns
returns c = is_tested c.args.correction c.ranges.correction
