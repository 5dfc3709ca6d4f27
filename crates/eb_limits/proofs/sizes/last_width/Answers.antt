-- `eb_limits::sizes::last_width` meets its contract. Assumes nothing.
use Rattle.eb_limits.proofs.SizeLaws.{width_two, width_last, width_first}
use borrow.Author.Rules.{rules}
use Rattle.eb_limits.proofs.sizes.last_width.Goals as goal

pub returns-then-timings-lt-OVER_2_BYTES-2 : goal.returns-then-timings-lt-OVER_2_BYTES-2
returns-then-timings-lt-OVER_2_BYTES-2 c = (width_two c.args.timings.now (search rules) c.if-timings-lt-OVER_2_BYTES.true c.if-timings-lt-OVER_2_BYTES-2.true, search rules)

pub returns-then-timings-lt-OVER_2_BYTES : goal.returns-then-timings-lt-OVER_2_BYTES
returns-then-timings-lt-OVER_2_BYTES c = (width_last c.args.timings.now (search rules) c.if-timings-lt-OVER_2_BYTES.true c.if-timings-lt-OVER_2_BYTES-2.false, search rules)

pub returns : goal.returns
returns c = (width_first c.args.timings.now (search rules) c.if-timings-lt-OVER_2_BYTES.false, search rules)
