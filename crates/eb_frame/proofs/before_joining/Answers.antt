-- `eb_frame::before_joining` meets its contract. Assumes nothing.
use Rattle.eb_frame.proofs.FramingLaws.{before_is}
use borrow.Author.Rules.{rules}
use Rattle.octets_spec.proofs.CountedLaws.{length_mapped}
use Rattle.eb_frame.proofs.before_joining.Goals as goal

pub returns : goal.returns
returns c = (before_is c.args.beacon _ _ (search rules) (search (rules, length_mapped)) c.at_most_16-used.ensures.0 c.group_size.ensures.0, search rules)
