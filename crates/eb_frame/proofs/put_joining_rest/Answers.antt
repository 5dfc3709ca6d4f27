-- `eb_frame::put_joining_rest` meets its contract. Assumes nothing.
use mathlib.Core.Path.{◌∙◌}
use Rattle.eb_frame.proofs.JoiningLaws.{flag_is, rest_put}
use borrow.Author.Rules.{rules}
use Rattle.eb_frame.proofs.put_joining_rest.Goals as goal

pub returns : goal.returns
returns c = rest_put _ _ c.args.joining _ _ _ _ (c.from-width.ensures ∙ flag_is _) (search rules) (rw (← c.from.ensures) c.at_most_16-used.ensures.0) c.put_be.ensures.buffer c.put_network.ensures
