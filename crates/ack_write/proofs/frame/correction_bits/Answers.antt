-- `ack_write::frame::correction_bits` meets its contract. Assumes nothing.
use Rattle.ack_write.proofs.FrameLaws.{sum_fits, sum_casts, sum_bits, same_casts, same_bits}
use Rattle.ack_write.proofs.frame.correction_bits.Goals as goal

pub overflow_add-result : goal.overflow_add-result
overflow_add-result c = sum_fits c.args.correction c.ranges.correction c.requires c.if-correction-lt0.true

pub overflow_cast-result : goal.overflow_cast-result
overflow_cast-result c = sum_casts c.args.correction c.ranges.correction c.requires c.if-correction-lt0.true

pub returns-then-correction-lt0 : goal.returns-then-correction-lt0
returns-then-correction-lt0 c = sum_bits c.args.correction c.ranges.correction c.requires c.if-correction-lt0.true

pub overflow_cast-result-2 : goal.overflow_cast-result-2
overflow_cast-result-2 c = same_casts c.args.correction c.ranges.correction c.requires c.if-correction-lt0.false

pub returns : goal.returns
returns c = same_bits c.args.correction c.ranges.correction c.requires c.if-correction-lt0.false
