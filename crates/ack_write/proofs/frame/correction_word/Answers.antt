-- `ack_write::frame::correction_word` meets its contract. Assumes nothing.
use mathlib.Core.Path.{◌∙◌}
use mir.Facts.{to_z-of_z}
use Rattle.eb_frame.proofs.JoiningLaws.{flag_is}
use Rattle.ack_write.proofs.FrameLaws.{word_is}
use Rattle.ack_write.proofs.frame.correction_word.Goals as goal

pub returns : goal.returns
returns c = word_is c.args.correction _ c.args.nack _ _ c.correction_bits.ensures.0 (to_z-of_z c.ranges.correction) c.correction_bits.ensures.1 (c.from.ensures ∙ flag_is c.args.nack)
