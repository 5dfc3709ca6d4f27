-- `eb_frame::joining_word` meets its contract. Assumes nothing.
use mathlib.Core.Path.{◌∙◌}
use Rattle.eb_frame.proofs.JoiningLaws.{flag_is, word_is}
use Rattle.eb_frame.proofs.joining_word.Goals as goal

pub returns : goal.returns
returns c = word_is _ _ _ (c.from.ensures ∙ flag_is _) (c.from-2.ensures ∙ flag_is _)
