-- `ack_read::correction::correction_of` meets its contract. Assumes nothing.
use Rattle.ack_read.proofs.DecodeLaws.{correction_low, correction_fits, correction_high}
use Rattle.ack_read.proofs.correction.correction_of.Goals as goal

pub returns-then-bits-lt2048 : goal.returns-then-bits-lt2048
returns-then-bits-lt2048 c = correction_low c.args.word c.if-bits-lt2048.true

pub overflow_sub-result : goal.overflow_sub-result
overflow_sub-result c = correction_fits c.args.word c.if-bits-lt2048.false

pub returns : goal.returns
returns c = correction_high c.args.word c.if-bits-lt2048.false
