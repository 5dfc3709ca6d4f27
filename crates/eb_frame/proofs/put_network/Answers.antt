-- `eb_frame::put_network` meets its contract. Assumes nothing.
use Rattle.eb_write_spec.proofs.RowLaws.{nothing}
use Rattle.eb_frame.proofs.JoiningLaws.{bytes_next, bytes_end}
use borrow.Author.Rules.{rules}
use Rattle.eb_frame.proofs.put_network.Goals as goal

pub loop-i-init : goal.loop-i-init
loop-i-init c = nothing c.args.buffer.now c.args.at

pub loop-i-preserved : goal.loop-i-preserved
loop-i-preserved c = bytes_next _ _ _ _ _ c.loop-i.invariant _ _ c.loop-i-test.true c.from.ensures (search rules) c.put_le.ensures.buffer

pub returns : goal.returns
returns c = bytes_end _ _ _ _ _ c.loop-i.invariant c.loop-i-test.false
